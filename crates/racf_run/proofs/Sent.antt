-- A text that is sent piece by piece.
use Rattle.std.proofs.Common.{◌≡◌, ◌≢◌, ◌⊎◌, inl, inr, ℕ, List, [], ◌++◌, take, drop, refl, sym, ◌∙◌, ap, append_assoc, append-nil}
use Rattle.std.specs.Prelude.{Option, Some}
use Rattle.std.specs.Io.KnownBytes.{append_known}
use Rattle.std.proofs.lemmas.List.{take-append-drop}
use Rattle.statements.specs.Gathering.{IsCutShort}
use Rattle.statements.specs.declared.status.Status.{Status}
use Rattle.statements.specs.declared.status.Status.TheVariants.{Done, Usage, Refusals, ReadFault, WriteFault, DiskFault, NotFormatted, Damaged, NoMemory, InputTooLong}
use Rattle.racf_run.specs.Making.{WroteFront, WroteText}
use Rattle.statements.proofs.Folds.{append_known-append, append_known-nil}

-- all of it but a rest
pub record WroteBut (text rest : List ℕ) (before now : Option (List ℕ)) : Type 0 where
  pub sent : List ℕ
  pub parts : text ≡ sent ++ rest
  pub wrote : now ≡ append_known before sent

pub begun : (text : List ℕ) (known : Option (List ℕ)) → WroteBut text text known known
begun text known = record { sent = []; parts = refl; wrote = sym (append_known-nil known) }

module _ (text rest : List ℕ) (before now : Option (List ℕ)) (sofar : WroteBut text rest before now) where
  pub to_front : WroteFront text before now
  to_front = record { front = sofar.sent; rest = rest; parts = sofar.parts; wrote = sofar.wrote }

  -- a piece of the rest was written too
  pub more : (piece left : List ℕ) (then : Option (List ℕ)) → rest ≡ piece ++ left → then ≡ append_known now piece → WroteBut text left before then
  more piece left then is wrote = record {
    sent = sofar.sent ++ piece;
    parts = sofar.parts ∙ ap (λ r. sofar.sent ++ r) is ∙ sym (append_assoc sofar.sent piece left);
    wrote = wrote ∙ ap (λ known. append_known known piece) sofar.wrote ∙ sym (append_known-append before sofar.sent piece);
  }

  -- the writing of a piece was cut short
  pub cut : (piece left : List ℕ) (then : Option (List ℕ)) → rest ≡ piece ++ left → IsCutShort piece now then → WroteFront text before then
  cut piece left then is short =
      let begun : List ℕ = take short.count piece in
      let lost : List ℕ = drop short.count piece in
      let whole : rest ≡ begun ++ (lost ++ left) = is ∙ ap (λ p. p ++ left) (sym (take-append-drop short.count piece)) ∙ append_assoc begun lost left in
      to_front_of (more begun (lost ++ left) then whole short.front)
    where
      to_front_of : {rest : List ℕ} {then : Option (List ℕ)} → WroteBut text rest before then → WroteFront text before then
      to_front_of {rest = rest} w = record { front = w.sent; rest = rest; parts = w.parts; wrote = w.wrote }

pub ended : (text rest : List ℕ) (before now : Option (List ℕ)) → WroteBut text rest before now → rest ≡ [] → now ≡ append_known before text
ended text rest before now sofar none =
    sofar.wrote ∙ ap (append_known before) (sym (sofar.parts ∙ ap (λ r. sofar.sent ++ r) none ∙ append-nil sofar.sent))

-- the writing of a whole text was cut short
pub short_front : (text : List ℕ) (before now : Option (List ℕ)) → IsCutShort text before now → WroteFront text before now
short_front text before now short = cut text text before before (begun text before) text [] now (sym (append-nil text)) short

-- what is known is one
pub same_known : (bytes other : List ℕ) → Some bytes ≡ Some other → bytes ≡ other
same_known bytes other h = cc

-- ---- a text in two parts
module _ (first second : List ℕ) (before middle now : Option (List ℕ)) (one : middle ≡ append_known before first) where
  -- the second was written behind the first
  pub both_whole : now ≡ append_known middle second → now ≡ append_known before (first ++ second)
  both_whole two = two ∙ ap (λ known. append_known known second) one ∙ sym (append_known-append before first second)

  -- a front of the second was
  pub both_front : WroteFront second middle now → WroteFront (first ++ second) before now
  both_front two = record {
    front = first ++ two.front;
    rest = two.rest;
    parts = ap (λ r. first ++ r) two.parts ∙ sym (append_assoc first two.front two.rest);
    wrote = two.wrote ∙ ap (λ known. append_known known two.front) one ∙ sym (append_known-append before first two.front);
  }

-- a front of the first is one of both
pub first_front : (first second : List ℕ) (before now : Option (List ℕ)) → WroteFront first before now → WroteFront (first ++ second) before now
first_front first second before now one = record {
  front = one.front;
  rest = one.rest ++ second;
  parts = ap (λ f. f ++ second) one.parts ∙ append_assoc one.front one.rest second;
  wrote = one.wrote;
}

-- ---- by the status
pub both : (status : Status) (first second : List ℕ) (before middle now : Option (List ℕ)) → middle ≡ append_known before first → WroteText status second middle now → WroteText status (first ++ second) before now
both Done first second before middle now one two = both_whole first second before middle now one two
both WriteFault first second before middle now one two = both_front first second before middle now one two
both NoMemory first second before middle now one two = both_front first second before middle now one two
both Refusals first second before middle now one two = elim two [ ]
both Usage first second before middle now one two = elim two [ ]
both ReadFault first second before middle now one two = elim two [ ]
both DiskFault first second before middle now one two = elim two [ ]
both NotFormatted first second before middle now one two = elim two [ ]
both (Damaged place) first second before middle now one two = elim two [ ]
both InputTooLong first second before middle now one two = elim two [ ]

pub stopped : (status : Status) (first second : List ℕ) (before now : Option (List ℕ)) → status ≢ Done → WroteText status first before now → WroteText status (first ++ second) before now
stopped Done first second before now other one = absurd (other refl)
stopped WriteFault first second before now other one = first_front first second before now one
stopped NoMemory first second before now other one = first_front first second before now one
stopped Refusals first second before now other one = elim one [ ]
stopped Usage first second before now other one = elim one [ ]
stopped ReadFault first second before now other one = elim one [ ]
stopped DiskFault first second before now other one = elim one [ ]
stopped NotFormatted first second before now other one = elim one [ ]
stopped (Damaged place) first second before now other one = elim one [ ]
stopped InputTooLong first second before now other one = elim one [ ]

-- how it ends
pub ends : (status : Status) (text : List ℕ) (before now : Option (List ℕ)) → WroteText status text before now → (status ≡ Done) ⊎ ((status ≡ WriteFault) ⊎ (status ≡ NoMemory))
ends Done text before now h = inl refl
ends WriteFault text before now h = inr (inl refl)
ends NoMemory text before now h = inr (inr refl)
ends Refusals text before now h = elim h [ ]
ends Usage text before now h = elim h [ ]
ends ReadFault text before now h = elim h [ ]
ends DiskFault text before now h = elim h [ ]
ends NotFormatted text before now h = elim h [ ]
ends (Damaged place) text before now h = elim h [ ]
ends InputTooLong text before now h = elim h [ ]
