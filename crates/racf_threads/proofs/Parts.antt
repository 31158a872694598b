-- Runs over one list of files, of which the first are decks.
use Rattle.std.proofs.Common.{◌≡◌, ℕ, zero, suc, ◌<◌, ◌≤◌, true, List, [], ◌∷◌, ◌++◌, map, length, take, drop, refl, sym, ◌∙◌, ap, subst, arith, length-take, length-append}
use Rattle.std.specs.Prelude.{Option, None, is_some}
use Rattle.std.specs.List.{All, AllZip, filter_map, sum_by}
use Rattle.std.proofs.lemmas.List.{take-append-drop}
use Rattle.desk_rules.specs.Position.{Position}
use Rattle.command_history.specs.declared.events.Accepted.{Accepted}
use Rattle.command_history.specs.Events.{all_of, Extends}
use Rattle.command_history.proofs.Extensions.{failed_of_all}
use Rattle.raclist_snapshots.specs.Publishing.{Seeing}
use Rattle.racroute.specs.Core.{Passing, new_passes}
use Rattle.racroute.specs.Kept.{fault_count}
use Rattle.statements.specs.declared.issuer.Issuing.{Issuing}
use Rattle.statements.specs.declared.status.Status.{Status}
use Rattle.statements.specs.declared.status.Status.TheVariants as statuses
use Rattle.racf_threads.specs.Together.{RunsTogether, greatest}
use Rattle.racf_threads.specs.Working.{Working, new_workers, HasWorked}
use Rattle.racf_threads.proofs.Runs.{runs, failed, ends_are, later}
use Rattle.racf_threads.proofs.Idle.{not_begun}

pub first_part : {X : Type 0} (xs ys : List X) → take (length xs) (xs ++ ys) ≡ xs
first_part [] ys = refl
first_part (x ∷ xs) ys = ap (λ l. x ∷ l) (first_part xs ys)

pub last_part : {X : Type 0} (xs ys : List X) → drop (length xs) (xs ++ ys) ≡ ys
last_part [] ys = refl
last_part (x ∷ xs) ys = last_part xs ys

taken_count : {X : Type 0} (count : ℕ) (xs : List X) → count ≤ length xs → length (take count xs) ≡ count
taken_count count xs few = omega (arith, length-take count xs)

pub passes_count : (count : ℕ) → length (new_passes count) ≡ count
passes_count zero = refl
passes_count (suc count) =
    let rest = passes_count count in
    omega (arith, length-append (new_passes count) (record { deck = count; commands = 0; faults = 0 } ∷ []))

module _ {I K : Type 0} (left : I → Option (List ℕ)) (reads : I → ℕ) (taken : K → Option (List ℕ)) (writes : K → ℕ) (base : Position) (issuing : Issuing) where
  -- The workers of these files have worked, and the office is closed.
  module _ (entries : List Accepted) (doubt : Option Accepted) (decks : ℕ) (passes : List Passing) (files : List (I × K)) (olds news : List (Working I K))
      (few : decks ≤ length files) (passes_are : passes ≡ new_passes decks) (olds_are : olds ≡ new_workers passes files)
      (did : AllZip (HasWorked left reads taken writes base issuing) olds news) where
    from_seats : AllZip (HasWorked left reads taken writes base issuing) (new_workers (new_passes decks) files) news
    from_seats =
        let at_seats = subst (λ (l : List (Working I K)). AllZip (HasWorked left reads taken writes base issuing) l news) olds_are did in
        subst (λ (l : List Passing). AllZip (HasWorked left reads taken writes base issuing) (new_workers l files) news) passes_are at_seats

    -- Each deck has handed its pass in.
    pub handed_in : length (filter_map (λ w. w.end) news) ≡ decks
    handed_in =
        let count = passes_count decks in
        ends_are left reads taken writes base issuing (new_passes decks) files news (omega arith) from_seats ∙ count

    pub runs_over : (callers : List Seeing) (ends : List Passing) (outs : List (I × K)) (status : Status)
        → callers ≡ map (λ w. w.caller) news → ends ≡ filter_map (λ w. w.end) news → outs ≡ filter_map (λ w. w.files) news → status ≡ greatest (map (λ w. w.status) news)
        → All (λ (caller : Seeing). Extends caller.events (all_of entries doubt)) callers
        → sum_by (λ (p : Passing). p.commands) ends ≡ length entries → sum_by (λ (p : Passing). p.faults) ends ≡ fault_count doubt
        → RunsTogether left reads taken writes base issuing entries doubt status (take decks files) (drop decks files) outs
    runs_over callers ends outs status callers_are ends_were outs_are status_is seen commands faults =
        let cut : (new_workers (new_passes decks) files ≡ new_workers (new_passes (length (take decks files))) (take decks files ++ drop decks files)) =
        ap (λ (n : ℕ). new_workers (new_passes n) files) (sym (taken_count decks files few))
        ∙ ap (λ (l : List (I × K)). new_workers (new_passes (length (take decks files))) l) (sym (take-append-drop decks files)) in
        let whole = subst (λ (l : List (Working I K)). AllZip (HasWorked left reads taken writes base issuing) l news) cut from_seats in
        let all = subst (λ (l : List Seeing). All (λ (caller : Seeing). Extends caller.events (all_of entries doubt)) l) callers_are seen in
        let counted = subst (λ (l : List Passing). sum_by (λ (p : Passing). p.commands) l ≡ length entries) ends_were commands in
        let failing = subst (λ (l : List Passing). sum_by (λ (p : Passing). p.faults) l ≡ fault_count doubt) ends_were faults in
        let ran = runs left reads taken writes base issuing entries doubt (take decks files) (drop decks files) news whole all counted failing in
        subst (λ (s : Status). RunsTogether left reads taken writes base issuing entries doubt s (take decks files) (drop decks files) outs) (sym status_is)
        (subst (λ (l : List (I × K)). RunsTogether left reads taken writes base issuing entries doubt (greatest (map (λ w. w.status) news)) (take decks files) (drop decks files) l) (sym outs_are) ran)

    -- By a disk fault a run ends only where a disk failed a command.
    pub fails_over : (callers : List Seeing) (status : Status) → callers ≡ map (λ w. w.caller) news → status ≡ greatest (map (λ w. w.status) news)
        → All (λ (caller : Seeing). Extends caller.events (all_of entries doubt)) callers → status ≡ statuses.DiskFault → is_some doubt ≡ true
    fails_over callers status callers_are status_is seen is =
        let all = subst (λ (l : List Seeing). All (λ (caller : Seeing). Extends caller.events (all_of entries doubt)) l) callers_are seen in
        let marked = failed left reads taken writes base issuing (all_of entries doubt) (new_passes decks) files news from_seats (later (all_of entries doubt) news all) (sym status_is ∙ is) in
        ap (λ (o : Option Accepted). is_some o) (sym (failed_of_all entries doubt)) ∙ marked

  -- What was run over one list was run over the two that it is made of.
  pub over_two : (entries : List Accepted) (doubt : Option Accepted) (status : Status) (decks requests files outs : List (I × K)) (count : ℕ) → files ≡ decks ++ requests → count ≡ length decks
      → RunsTogether left reads taken writes base issuing entries doubt status (take count files) (drop count files) outs
      → RunsTogether left reads taken writes base issuing entries doubt status decks requests outs
  over_two entries doubt status decks requests files outs count files_are count_is ran =
      subst (λ (l : List (I × K)). RunsTogether left reads taken writes base issuing entries doubt status l requests outs) (first_part decks requests)
      (subst (λ (l : List (I × K)). RunsTogether left reads taken writes base issuing entries doubt status (take (length decks) (decks ++ requests)) l outs) (last_part decks requests)
      (subst (λ (n : ℕ). RunsTogether left reads taken writes base issuing entries doubt status (take n (decks ++ requests)) (drop n (decks ++ requests)) outs) count_is
      (subst (λ (l : List (I × K)). RunsTogether left reads taken writes base issuing entries doubt status (take count l) (drop count l) outs) files_are ran)))

  -- There was no memory for it.
  pub idle_over : (decks : ℕ) (files outs : List (I × K)) (status : Status) (entries : List Accepted) (doubt : Option Accepted) → 0 < length files → outs ≡ files → status ≡ statuses.NoMemory → entries ≡ [] → doubt ≡ None
      → RunsTogether left reads taken writes base issuing entries doubt status (take decks files) (drop decks files) outs
  idle_over decks files outs status entries doubt some outs_are status_is none runs_on =
      let both = take-append-drop decks files in
      let there : 0 < length (take decks files ++ drop decks files) = subst (λ (l : List (I × K)). 0 < length l) (sym both) some in
      let idle = not_begun left reads taken writes base issuing (take decks files) (drop decks files) there in
      rw (status_is, none, runs_on) (subst (λ (l : List (I × K)). RunsTogether left reads taken writes base issuing [] None statuses.NoMemory (take decks files) (drop decks files) l) (both ∙ sym outs_are) idle)
