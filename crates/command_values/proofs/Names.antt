-- Facts of names that were read.
use Rattle.std.proofs.Common.{◌≡◌, ℕ, suc, ◌+◌, List, [], ◌∷◌, length, map, Bool, true, false, cond, not, Option, None, Some, Result, Ok, Err, refl, sym, ap, subst, ◌∙◌, arith}
use Rattle.std.specs.Prelude.{◌==◌, nat_lt, bytes_eq, codes}
use Rattle.std.specs.List.{list_all, position_from}
use Rattle.std.specs.Result.{result_ok}
use Rattle.std.proofs.lemmas.Bool.{not-false, and_parts}
use Rattle.std.proofs.lemmas.Bool.Decides.{nat_tests}
use Rattle.access_levels.specs.declared.ids.IdFault.TheVariants.{Empty, TooLong}
use Rattle.access_levels.specs.Spelling.{is_id_byte, bad_byte, begins_with_digit, bad_group_byte, unless_bad, id_of, group_of, name_of as spelled_name}
use Rattle.command_words.specs.declared.quoting.Quoting.TheVariants.{Ignored}
use Rattle.command_words.specs.Bytes.{is_faulty_byte, upper}
use Rattle.command_words.specs.ValuedWords.{faulty_at}
use Rattle.command_words.proofs.Letters.{is_letter}
use Rattle.command_values.specs.declared.value_kinds.ValueKind.{ValueKind}
use Rattle.command_values.specs.declared.value_kinds.ValueKind.TheVariants as kinds
use Rattle.command_values.specs.Values.{name_of, unless_dataset}

id-letter : (b : ℕ) → is_id_byte b ≡ true → is_letter b ≡ true
id-letter b h = grind (arith, nat_tests)

id-sound : (b : ℕ) → is_id_byte b ≡ true → is_faulty_byte b ≡ false
id-sound b h = grind (arith, nat_tests)

id-upper : (b : ℕ) → is_id_byte b ≡ true → upper b ≡ b
id-upper b h = grind (arith, nat_tests)

pub if-err : {A E : Type 0} (c : Bool) (e : E) (r : Result A E) (x : A) → cond c (Err e) r ≡ Ok x → (c ≡ false) × (r ≡ Ok x)
if-err true e r x h = cc
if-err false e r x h = (refl, h)

pub if-none : {A : Type 0} (c : Bool) (r : Option A) (x : A) → cond c None r ≡ Some x → (c ≡ false) × (r ≡ Some x)
if-none true r x h = cc
if-none false r x h = (refl, h)

if-some : {A : Type 0} (c : Bool) (y : A) (r : Option A) → cond c (Some y) r ≡ None → (c ≡ false) × (r ≡ None)
if-some true y r h = cc
if-some false y r h = (refl, h)

pub result_ok-some : {A E : Type 0} (r : Result A E) (x : A) → result_ok r ≡ Some x → r ≡ Ok x
result_ok-some (Ok y) x h = cc
result_ok-some (Err e) x h = cc

-- no bad byte: each is one of a name
none_bad : (i : ℕ) (w : List ℕ) → position_from (λ byte. not (is_id_byte byte)) i w ≡ None → list_all is_id_byte w ≡ true
none_bad i [] h = refl
none_bad i (b ∷ w) h =
    let both = if-some (not (is_id_byte b)) i (position_from (λ byte. not (is_id_byte byte)) (i + 1) w) h in
    rw (not-false (is_id_byte b) both.0) (none_bad (i + 1) w both.1)

unless_bad-ok : (bad : Option ℕ) (w x : List ℕ) → unless_bad bad w ≡ Ok x → (x ≡ w) × (bad ≡ None)
unless_bad-ok None w x h = (cc, refl)
unless_bad-ok (Some place) w x h = cc

spelled_name-ok : (bad : Option ℕ) (w x : List ℕ) → spelled_name bad w ≡ Ok x → (x ≡ w) × (bad ≡ None)
spelled_name-ok bad w x h =
    let some_bytes = if-err (length w == 0) Empty _ x h in
    let few = if-err (nat_lt 8 (length w)) TooLong _ x some_bytes.1 in
    unless_bad-ok bad w x few.1

group-bad : (w : List ℕ) → bad_group_byte w ≡ None → bad_group_byte w ≡ bad_byte w
group-bad w h = let both = if-some (begins_with_digit w) 1 (bad_byte w) h in rw both.0 refl

pub id_of-ok : (w x : List ℕ) → id_of w ≡ Ok x → (x ≡ w) × (list_all is_id_byte w ≡ true)
id_of-ok w x h = let both = spelled_name-ok (bad_byte w) w x h in (both.0, none_bad 1 w both.1)

pub group_of-ok : (w x : List ℕ) → group_of w ≡ Ok x → (x ≡ w) × (id_of w ≡ Ok x)
group_of-ok w x h =
    let both = spelled_name-ok (bad_group_byte w) w x h in
    (both.0, ap (λ bad. spelled_name bad w) (sym (group-bad w both.1)) ∙ h)

unless_dataset-some : (o : Option (List ℕ)) (x : List ℕ) → unless_dataset o ≡ Some x → o ≡ Some x
unless_dataset-some None x h = h
unless_dataset-some (Some w) x h = (if-none (bytes_eq w (codes "DATASET")) (Some w) x h).1

-- a name is the word in upper case, and has an ID's spelling
pub name-id : (k : ValueKind) (w x : List ℕ) → name_of k w ≡ Some x → id_of (map upper w) ≡ Ok x
name-id kinds.Group w x h = (group_of-ok (map upper w) x (result_ok-some (group_of (map upper w)) x h)).1
name-id kinds.Classes w x h = result_ok-some (id_of (map upper w)) x (unless_dataset-some (result_ok (id_of (map upper w))) x h)
name-id kinds.Flag w x h = cc
name-id kinds.Id w x h = result_ok-some (id_of (map upper w)) x h
name-id kinds.Authority w x h = cc
name-id kinds.Name w x h = cc
name-id kinds.Ids w x h = result_ok-some (id_of (map upper w)) x h
name-id kinds.Level w x h = cc
name-id kinds.Audit w x h = cc
name-id kinds.Class w x h = result_ok-some (id_of (map upper w)) x h
name-id kinds.DataSetProfile w x h = cc
name-id kinds.ClassProfile w x h = cc
name-id kinds.AnyProfile w x h = cc
name-id kinds.Reset w x h = cc
name-id kinds.Whos w x h = cc
name-id kinds.When w x h = cc
name-id kinds.AddedMembers w x h = cc
name-id kinds.DroppedMembers w x h = cc
name-id kinds.Generic w x h = cc
name-id kinds.Failures w x h = cc
name-id kinds.LogOptions w x h = cc
name-id kinds.Length w x h = cc
name-id kinds.Truth w x h = cc
name-id kinds.ClassNames w x h = cc

pub all_of : (p q : ℕ → Bool) → ((b : ℕ) → p b ≡ true → q b ≡ true) → (w : List ℕ) → list_all p w ≡ true → list_all q w ≡ true
all_of p q implies [] h = refl
all_of p q implies (b ∷ w) h = rw (implies b (and_parts _ _ h).0) (all_of p q implies w (and_parts _ _ h).1)

upper-ids : (w : List ℕ) → list_all is_id_byte w ≡ true → map upper w ≡ w
upper-ids [] h = refl
upper-ids (b ∷ w) h = rw (id-upper b (and_parts _ _ h).0) (ap (λ bs. b ∷ bs) (upper-ids w (and_parts _ _ h).1))

sound-ids : (p : ℕ) (w : List ℕ) → list_all is_id_byte w ≡ true → faulty_at Ignored p w ≡ None
sound-ids p [] h = refl
sound-ids p (b ∷ w) h = rw (id-sound b (and_parts _ _ h).0) (sound-ids (suc p) w (and_parts _ _ h).1)

-- what holds of a name's bytes
pub record IsPlainName (x : List ℕ) : Type 0 where
  pub letters : list_all is_letter x ≡ true
  pub sound : (p : ℕ) → faulty_at Ignored p x ≡ None
  pub folded : map upper x ≡ x
  pub spelled : id_of x ≡ Ok x

pub plain_name : (x : List ℕ) → id_of x ≡ Ok x → IsPlainName x
plain_name x h =
    let ids = (id_of-ok x x h).1 in
    record { letters = all_of is_id_byte is_letter id-letter x ids; sound = λ p. sound-ids p x ids; folded = upper-ids x ids; spelled = h }

pub name-plain : (k : ValueKind) (w x : List ℕ) → name_of k w ≡ Some x → IsPlainName x
name-plain k w x h =
    let whole = name-id k w x h in
    let same = (id_of-ok (map upper w) x whole).0 in
    plain_name x (subst (λ (y : List ℕ). id_of y ≡ Ok x) (sym same) whole)

-- a group's name has a group name's spelling
pub name-group : (w x : List ℕ) → name_of kinds.Group w ≡ Some x → group_of x ≡ Ok x
name-group w x h =
    let whole = result_ok-some (group_of (map upper w)) x h in
    let same = (group_of-ok (map upper w) x whole).0 in
    subst (λ (y : List ℕ). group_of y ≡ Ok x) (sym same) whole

-- the name of a kind depends on the word in upper case alone
name_folded : (k : ValueKind) (v w : List ℕ) → map upper v ≡ map upper w → name_of k v ≡ name_of k w
name_folded kinds.Group v w h = rw h refl
name_folded kinds.Classes v w h = rw h refl
name_folded kinds.Flag v w h = refl
name_folded kinds.Id v w h = rw h refl
name_folded kinds.Authority v w h = refl
name_folded kinds.Name v w h = refl
name_folded kinds.Ids v w h = rw h refl
name_folded kinds.Level v w h = refl
name_folded kinds.Audit v w h = refl
name_folded kinds.Class v w h = rw h refl
name_folded kinds.DataSetProfile v w h = refl
name_folded kinds.ClassProfile v w h = refl
name_folded kinds.AnyProfile v w h = refl
name_folded kinds.Reset v w h = refl
name_folded kinds.Whos v w h = refl
name_folded kinds.When v w h = refl
name_folded kinds.AddedMembers v w h = refl
name_folded kinds.DroppedMembers v w h = refl
name_folded kinds.Generic v w h = refl
name_folded kinds.Failures v w h = refl
name_folded kinds.LogOptions v w h = refl
name_folded kinds.Length v w h = refl
name_folded kinds.Truth v w h = refl
name_folded kinds.ClassNames v w h = refl

-- a name that was read reads as itself
pub name-again : (k : ValueKind) (w x : List ℕ) → name_of k w ≡ Some x → name_of k x ≡ Some x
name-again k w x h =
    let plain = name-plain k w x h in
    let same = (id_of-ok (map upper w) x (name-id k w x h)).0 in
    name_folded k x w (plain.folded ∙ same) ∙ h
