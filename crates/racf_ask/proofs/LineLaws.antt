-- What the reader of lines gives, as the lines of questions.
use Rattle.std.proofs.Common.{◌≡◌, ℕ, ◌<◌, Bool, true, false, List, [], ◌∷◌, ◌++◌, length, Some, refl, ◌∙◌, ap, subst, arith, append_assoc, append-nil, length-append}
use Rattle.std.specs.Prelude.{Option, Result, Ok, Err}
use Rattle.std.specs.Borrow.{Bor}
use Rattle.racf_outside.specs.Lines as text
use Rattle.racf_outside.specs.Next as line
use Rattle.racf_outside.specs.Reader.{Reader}
use Rattle.racf_outside.specs.declared.lines.Line as next_line
use Rattle.racf_outside.specs.declared.lines.Line.TheVariants as next
use Rattle.racf_outside.specs.declared.lines.LineFault.{LineFault}
use Rattle.racf_outside.specs.declared.lines.LineFault.TheVariants as fault
use Rattle.racf_outside.proofs.LineLaws as laws
use Rattle.request_files.specs.declared.line.RequestLine.{RequestLine}
use Rattle.request_files.specs.declared.line.LineRefusal.{LineRefusal}
use Rattle.request_files.specs.declared.line.LineRefusal.TheVariants as refusal
use Rattle.statements.specs.declared.stopping.Stop.TheVariants as stop
use Rattle.statements.specs.NextStatement.{IsWalked, TakesStatements, TakesFront, TakesTooMuch}
use Rattle.racf_workers.specs.Lines.{unskipped, IsRead}
use Rattle.racf_ask.specs.Asking.{all_lines}
use Rattle.racf_ask.specs.Answering.{NextsLine}

pub no_lines : all_lines.items [] ≡ []
unfolding all_lines
no_lines = refl

some_bytes : (raw : List ℕ) (ended : Bool) → (ended ≡ true → 0 < length raw) → 0 < length (raw ++ line.end_of ended)
some_bytes raw false some = omega (arith, length-append raw (10 ∷ []))
some_bytes raw true some = omega (arith, length-append raw [], some refl)

-- a line that a feed ended
walked_on : (ended : Bool) (raw : List ℕ) → text.NoFeed raw → ended ≡ false → IsWalked all_lines (raw ++ line.end_of ended) (text.line_of raw ∷ [])
unfolding all_lines
walked_on false raw h is =
    record {
      whole = λ more. ap text.whole_lines (append_assoc raw (10 ∷ []) more) ∙ laws.whole_lines-feed raw more h;
      all = λ more. ap text.lines (append_assoc raw (10 ∷ []) more) ∙ laws.lines-feed raw more h;
    }
walked_on true raw h is = cc

-- one that the end of the input ended
walked_last : (ended : Bool) (raw : List ℕ) → text.NoFeed raw → (ended ≡ true → 0 < length raw) → ended ≡ true → all_lines.items (raw ++ line.end_of ended) ≡ text.line_of raw ∷ []
unfolding all_lines
walked_last false raw h some is = cc
walked_last true raw h some is = ap text.lines (append-nil raw) ∙ laws.lines-last raw h (some is)

takes_line : (raw : List ℕ) (old new : Reader) → line.TakesLine raw old new → TakesStatements all_lines (text.line_of raw ∷ []) (raw ++ line.end_of new.ended) old new
takes_line raw old new t =
    record {
      begun = t.begun;
      some = some_bytes raw new.ended t.some;
      taken = t.taken;
      counted = t.counted;
      goes_on = λ is. walked_on new.ended raw t.no_feed is;
      last = λ is. record { all = walked_last new.ended raw t.no_feed t.some is; at_end = t.at_end is };
    }

-- ---- why no line comes
no_whole : (raw : List ℕ) → text.NoFeed raw → all_lines.whole_items raw ≡ []
unfolding all_lines
no_whole raw h = laws.whole_lines-front raw h

takes_front : (raw : List ℕ) (old new : Reader) → line.TakesFront raw old new → TakesFront all_lines raw old new
takes_front raw old new t = record { begun = t.begun; none = no_whole raw t.no_feed; taken = t.taken; none_held = t.none_held; cause = t.cause }

takes_too_much : (raw : List ℕ) (over : ℕ) (old new : Reader) → line.TakesTooMuch raw over old new → TakesTooMuch all_lines raw over old new
takes_too_much raw over old new t = record { begun = t.begun; none = no_whole raw t.no_feed; taken = t.taken; limit = t.limit }

-- ---- what the reader of lines answered, as a line or a stop
gives : (line_is : text.Line) (raw : List ℕ) (told : Option (Result RequestLine LineRefusal)) (old new : Reader) → line.TakesLine raw old new → text.line_of raw ≡ line_is → IsRead (unskipped line_is) told → NextsLine (Ok told) old new
gives line_is raw told old new t is read =
    (line_is, raw ++ line.end_of new.ended, subst (λ (l : text.Line). TakesStatements all_lines (l ∷ []) (raw ++ line.end_of new.ended) old new) is (takes_line raw old new t), read)

pub from_text : (r : Result next_line.Line LineFault) (shown : Bor (List ℕ)) (told : Option (Result RequestLine LineRefusal)) (old new : Reader) → line.Nexts r old new → r ≡ Ok (next.Text shown) → IsRead (unskipped (text.Text shown.now)) told → NextsLine (Ok told) old new
from_text r shown told old new h e read =
    let taken : (raw : List ℕ) × line.TakesLine raw old new × (text.line_of raw ≡ text.Text shown.now) = subst (λ x. line.Nexts x old new) e h in
    gives (text.Text shown.now) taken.0 told old new taken.1 taken.2 read

pub from_too_long : (r : Result next_line.Line LineFault) (old new : Reader) → line.Nexts r old new → r ≡ Ok next.TooLong → NextsLine (Ok (Some (Err refusal.LineTooLong))) old new
from_too_long r old new h e =
    let taken : (raw : List ℕ) × line.TakesLine raw old new × (text.line_of raw ≡ text.TooLong) = subst (λ x. line.Nexts x old new) e h in
    gives text.TooLong taken.0 (Some (Err refusal.LineTooLong)) old new taken.1 taken.2 refl

pub from_end : (r : Result next_line.Line LineFault) (old new : Reader) → line.Nexts r old new → r ≡ Ok next.End → NextsLine (Err stop.End) old new
from_end r old new h e = subst (λ x. line.Nexts x old new) e h

pub from_read_fault : (r : Result next_line.Line LineFault) (old new : Reader) → line.Nexts r old new → r ≡ Err fault.ReadFault → NextsLine (Err stop.ReadFault) old new
from_read_fault r old new h e =
    let taken : (raw : List ℕ) × line.TakesFront raw old new = subst (λ x. line.Nexts x old new) e h in (taken.0, takes_front taken.0 old new taken.1)

pub from_too_much : (r : Result next_line.Line LineFault) (old new : Reader) → line.Nexts r old new → r ≡ Err fault.InputTooLong → NextsLine (Err stop.InputTooLong) old new
from_too_much r old new h e =
    let taken : (raw : List ℕ) × (over : ℕ) × line.TakesTooMuch raw over old new = subst (λ x. line.Nexts x old new) e h in (taken.0, taken.1, takes_too_much taken.0 taken.1 old new taken.2)
