-- The mark at the end of a line, looked for from the end.
use Rattle.std.proofs.Common.{◌≡◌, ℕ, ◌+◌, ◌-◌, ◌<◌, ◌≤◌, Bool, true, false, List, [], ◌∷◌, ◌++◌, length, take, get_or, None, Some, refl, sym, ◌∙◌, ap, arith}
use Rattle.std.specs.Prelude.{Option, option_map, ◌&&◌}
use Rattle.std.specs.List.{list_all}
use Rattle.std.proofs.lemmas.List.{take_all, take_more}
use Rattle.statements.specs.declared.mark.Mark.{Mark}
use Rattle.statements.specs.Fronts.{marked, behind}
use Rattle.command_words.specs.Bytes.{is_blank_byte}
use Rattle.statements.specs.Joining.{mark_of, going_on}

all_behind : (bytes : List ℕ) (last : ℕ) → is_blank_byte last ≡ true → list_all is_blank_byte (bytes ++ last ∷ []) ≡ list_all is_blank_byte bytes
all_behind [] last h = rw h refl
all_behind (b ∷ bytes) last h = ap (λ rest. is_blank_byte b && rest) (all_behind bytes last h)

none_behind : (bytes : List ℕ) (last : ℕ) → is_blank_byte last ≡ false → list_all is_blank_byte (bytes ++ last ∷ []) ≡ false
none_behind [] last h = rw h refl
none_behind (b ∷ bytes) last h = ap (λ rest. is_blank_byte b && rest) (none_behind bytes last h) ∙ and_false (is_blank_byte b)
  where
    and_false : (b : Bool) → (b && false) ≡ false
    and_false true = refl
    and_false false = refl

no_mark : (byte : ℕ) → is_blank_byte byte ≡ true → mark_of byte ≡ None
no_mark byte h = grind arith

-- A blank or a tab at the end changes nothing.
pub going_on-blank : (bytes : List ℕ) (last : ℕ) → is_blank_byte last ≡ true → going_on (bytes ++ last ∷ []) ≡ going_on bytes
going_on-blank [] last h = ap (option_map (marked [])) (no_mark last h)
going_on-blank (b ∷ bytes) last h = rw (all_behind bytes last h, going_on-blank bytes last h) refl

-- Any other byte at the end is the mark, or there is none.
option_map-twice : (m : Option Mark) (b : ℕ) (text : List ℕ) → option_map (behind b) (option_map (marked text) m) ≡ option_map (marked (b ∷ text)) m
option_map-twice None b text = refl
option_map-twice (Some m) b text = refl

pub going_on-last : (bytes : List ℕ) (last : ℕ) → is_blank_byte last ≡ false → going_on (bytes ++ last ∷ []) ≡ option_map (marked bytes) (mark_of last)
going_on-last [] last h = refl
going_on-last (b ∷ bytes) last h = rw (none_behind bytes last h, going_on-last bytes last h) (option_map-twice (mark_of last) b bytes)

-- a line as its front and its last byte
front_last : (rest : List ℕ) → 1 ≤ length rest → take (length rest - 1) rest ++ get_or rest (length rest - 1) 0 ∷ [] ≡ rest
front_last rest h =
    sym (take_more rest (length rest - 1) 0 (omega arith)) ∙ take_all (length rest - 1 + 1) rest (omega arith)

pub looks_on : (rest text : List ℕ) (blank : Bool) → 1 ≤ length rest → blank ≡ is_blank_byte (get_or rest (length rest - 1) 0) → blank ≡ true → going_on rest ≡ going_on text → going_on (take (length rest - 1) rest) ≡ going_on text
looks_on rest text blank some is h same =
    sym (going_on-blank (take (length rest - 1) rest) (get_or rest (length rest - 1) 0) (sym is ∙ h)) ∙ ap going_on (front_last rest some) ∙ same

pub found : (rest text : List ℕ) (blank : Bool) (mark : Option Mark) → 1 ≤ length rest → blank ≡ is_blank_byte (get_or rest (length rest - 1) 0) → blank ≡ false → mark ≡ mark_of (get_or rest (length rest - 1) 0) → going_on rest ≡ going_on text → option_map (marked (take (length rest - 1) rest)) mark ≡ going_on text
found rest text blank mark some is h e same =
    ap (option_map (marked (take (length rest - 1) rest))) e
    ∙ sym (going_on-last (take (length rest - 1) rest) (get_or rest (length rest - 1) 0) (sym is ∙ h))
    ∙ ap going_on (front_last rest some) ∙ same

pub no_last : (rest text : List ℕ) → length rest < 1 → going_on rest ≡ going_on text → None ≡ going_on text
no_last [] text none same = same
no_last (b ∷ bytes) text none same = absurd (omega arith)
