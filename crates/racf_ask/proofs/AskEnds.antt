-- How questions end, by what was read and written.
use Rattle.std.proofs.Common.{◌≡◌, ℕ, ◌≤◌, Bool, List, ◌++◌, [], length, None, Some, sym, ◌∙◌, ap, subst, append-nil}
use Rattle.std.specs.Prelude.{Option, IsTrue, IfSome}
use Rattle.std.specs.Io.KnownBytes.{prepend_known, append_known, IsAtEnd}
use Rattle.racf_outside.specs.Lines as text
use Rattle.raclist_image.specs.Imaged.{Imaged}
use Rattle.desk_rules.specs.Position.{Position}
use Rattle.statements.specs.declared.status.Status.{Status}
use Rattle.statements.specs.declared.status.Status.TheVariants.{Done, Refusals, Usage, ReadFault, WriteFault, DiskFault, NotFormatted, Damaged, NoMemory, InputTooLong}
use Rattle.statements.specs.Status.{is_whole}
use Rattle.statements.specs.Runs.{Ran, WroteAll, after, output, status_of, longest_input}
use Rattle.racf_ask.specs.Asking.{asking, all_lines, new_asking, ask_output, ask_status}
use Rattle.racf_ask.proofs.AskWalk.{Nothing}

-- what was read of a source that tells its bytes
read_all : (source more : Option (List ℕ)) (read : List ℕ) → source ≡ prepend_known read more → IsAtEnd more → IfSome source (λ bytes. read ≡ bytes)
read_all None more read given end = tt
read_all (Some bytes) None read given end = cc
read_all (Some bytes) (Some told) read given end = let same : Some bytes ≡ Some (read ++ []) = given ∙ ap (λ rest. Some (read ++ rest)) end in sym (same_bytes same)
  where
    same_bytes : Some bytes ≡ Some (read ++ []) → bytes ≡ read
    same_bytes h = let is : bytes ≡ read ++ [] = cc in is ∙ append-nil read

if_read : (source : Option (List ℕ)) (P Q : List ℕ → Type 0) → ((bytes : List ℕ) → P bytes → Q bytes) → IfSome source P → IfSome source Q
if_read None P Q f p = tt
if_read (Some bytes) P Q f p = f bytes p

module _ (numbered : Bool) (base : Position) (R W : Type 0) (source left before now : Option (List ℕ)) where
  -- what is said of a whole input
  pub record Whole (status : Status) (bytes : List ℕ) : Type 0 where
    pub text : now ≡ append_known before (ask_output numbered base bytes)
    pub is_status : status ≡ ask_status numbered base bytes
    pub fits : length bytes ≤ longest_input

  all_wrote : (status : Status) (more : Option (List ℕ)) (read : List ℕ) (worked : List text.Line) (written : List ℕ) → source ≡ prepend_known read more → now ≡ append_known before written
      → WroteAll (asking numbered base) status read more worked written → IfSome source (Whole status)
  unfolding all_lines
  all_wrote status more read worked written given gained w =
      let m = asking numbered base in
      let whole : Whole status read =
      record {
        text = gained ∙ ap (append_known before) (w.whole ∙ ap (λ items. output m items new_asking) w.all);
        is_status = w.is_status ∙ ap (λ items. status_of m (after m items new_asking)) w.all;
        fits = w.fits;
      } in
      if_read source (λ bytes. read ≡ bytes) (Whole status) (λ bytes same. subst (Whole status) same whole) (read_all source more read given w.ended)

  pub ran_whole : (status : Status) → IsTrue (is_whole status) → Ran (asking numbered base) Nothing R W status source left before now → IfSome source (Whole status)
  ran_whole Done is r = all_wrote Done r.more r.read r.worked r.written r.given r.gained r.wrote
  ran_whole Refusals is r = all_wrote Refusals r.more r.read r.worked r.written r.given r.gained r.wrote
  ran_whole Usage is r = cc
  ran_whole ReadFault is r = cc
  ran_whole WriteFault is r = cc
  ran_whole DiskFault is r = cc
  ran_whole NotFormatted is r = cc
  ran_whole (Damaged place) is r = cc
  ran_whole NoMemory is r = cc
  ran_whole InputTooLong is r = cc

  pub written_whole : (status : Status) → IsTrue (is_whole status) → Ran (asking numbered base) Nothing R W status source left before now
      → IfSome source (λ bytes. (now ≡ append_known before (ask_output numbered base bytes)) × (status ≡ ask_status numbered base bytes))
  written_whole status is r =
      if_read source (Whole status) (λ bytes. (now ≡ append_known before (ask_output numbered base bytes)) × (status ≡ ask_status numbered base bytes)) (λ bytes w. (w.text, w.is_status)) (ran_whole status is r)

  pub not_longer : (status : Status) → IsTrue (is_whole status) → Ran (asking numbered base) Nothing R W status source left before now → IfSome source (λ bytes. length bytes ≤ longest_input)
  not_longer status is r = if_read source (Whole status) (λ bytes. length bytes ≤ longest_input) (λ bytes w. w.fits) (ran_whole status is r)

  -- no other status comes
  pub never : (status other : Status) → Ran (asking numbered base) Nothing R W status source left before now → status ≡ other → Ran (asking numbered base) Nothing R W other source left before now
  never status other r is = subst (λ (x : Status). Ran (asking numbered base) Nothing R W x source left before now) is r

-- a position with this image
abbrev pub with_image : Imaged → Position
with_image image = record { image = image; gate = 0 }
