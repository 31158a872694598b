-- A run for which there was no memory: each worker has stopped before its first line.
use Rattle.std.proofs.Common.{◌≡◌, ℕ, zero, suc, ◌+◌, ◌<◌, List, [], ◌∷◌, ◌++◌, map, length, refl, sym, ◌∙◌, ap, arith}
use Rattle.std.specs.Prelude.{Option, None}
use Rattle.std.specs.List.{sum_by}
use Rattle.std.proofs.lemmas.List.Elements.{All-nil}
use Rattle.std.proofs.lemmas.List.Sums.{sum_by-cons}
use Rattle.desk_rules.specs.Position.{Position}
use Rattle.command_history.specs.declared.events.Accepted.{Accepted}
use Rattle.command_history.specs.Events.{all_of, Extends}
use Rattle.racroute.specs.Core.{Passing}
use Rattle.statements.specs.declared.issuer.Issuing.{Issuing}
use Rattle.statements.specs.declared.status.Status.TheVariants as statuses
use Rattle.racf_workers.proofs.DeckWalk.{none_given}
use Rattle.racf_workers.proofs.FileWalk.{none_answered}
use Rattle.racf_threads.specs.Outputs.{new_pass}
use Rattle.racf_threads.specs.Together.{Worked, ReadFailed, WriteFailed, AreFiles, HasStopped, RunsTogether, greater, greatest}
use Rattle.racf_threads.proofs.Gave.{DecksGave}
use Rattle.racf_threads.proofs.Own.{decks_ran, faults_ran}
use Rattle.racf_threads.proofs.Runs.{passes_from, over_both}

-- nothing was seen
seen_nothing : Extends [] (all_of [] None)
seen_nothing = record { prefix = (all_of [] None, refl); whole = λ ended. cc }

none_counted : (count deck : ℕ) → sum_by (λ (p : Passing). p.commands) (passes_from deck count) ≡ 0
none_counted zero deck = refl
none_counted (suc count) deck = sum_by-cons (λ (p : Passing). p.commands) (new_pass deck) (passes_from (suc deck) count) ∙ ap (λ n. 0 + n) (none_counted count (suc deck))

none_failed : (count deck : ℕ) → sum_by (λ (p : Passing). p.faults) (passes_from deck count) ≡ 0
none_failed zero deck = refl
none_failed (suc count) deck = sum_by-cons (λ (p : Passing). p.faults) (new_pass deck) (passes_from (suc deck) count) ∙ ap (λ n. 0 + n) (none_failed count (suc deck))

module _ {I K : Type 0} where
  abbrev pub idle : I × K → Worked I K
  idle given = record { given = given; back = given; status = statuses.NoMemory; faults = 0 }

  given_again : (files : List (I × K)) → map (λ w. w.given) (map idle files) ≡ files
  given_again [] = refl
  given_again (given ∷ files) = ap (λ (l : List (I × K)). given ∷ l) (given_again files)

  back_again : (files : List (I × K)) → map (λ w. w.back) (map idle files) ≡ files
  back_again [] = refl
  back_again (given ∷ files) = ap (λ (l : List (I × K)). given ∷ l) (back_again files)

  at_least : (files : List (I × K)) → greater statuses.NoMemory (greatest (map (λ w. w.status) (map idle files))) ≡ statuses.NoMemory
  at_least [] = refl
  at_least (given ∷ files) = ap (greater statuses.NoMemory) (at_least files)

  no_memory : (files : List (I × K)) → 0 < length files → statuses.NoMemory ≡ greatest (map (λ w. w.status) (map idle files))
  no_memory [] some = absurd (omega arith)
  no_memory (given ∷ files) some = sym (at_least files)

module _ {I K : Type 0} (left : I → Option (List ℕ)) (reads : I → ℕ) (taken : K → Option (List ℕ)) (writes : K → ℕ) (base : Position) (issuing : Issuing) where
  stopped : (given : I × K) → HasStopped left reads taken writes base issuing (idle given)
  stopped given =
      record {
        usage = λ is. cc;
        formatted = λ is. cc;
        undamaged = λ place is. cc;
        read_fault = λ is. absurd (cc);
        write_fault = λ is. absurd (cc);
        too_long = λ is. absurd (cc);
        no_fewer_reads = omega arith;
        no_fewer_writes = omega arith;
      }

  decks_gave : (deck : ℕ) (decks : List (I × K)) → DecksGave left reads taken writes base issuing (all_of [] None) deck (map idle decks) (passes_from deck (length decks))
  decks_gave deck [] = tt
  decks_gave deck (given ∷ decks) = (
    record { seen = []; gives = none_given base issuing [] (new_pass deck) (ReadFailed left reads taken writes base issuing (idle given)) (WriteFailed left reads taken writes base issuing (idle given)) (left given.0) (left given.0) (taken given.1); later = seen_nothing; told = λ some. absurd (omega arith) },
    stopped given,
    refl,
    decks_gave (suc deck) decks,
  )

  are_files : (requests : List (I × K)) → AreFiles left reads taken writes base issuing (all_of [] None) (map idle requests)
  are_files [] = tt
  are_files (given ∷ requests) = (
    (record { seen = []; answers = none_answered base [] (ReadFailed left reads taken writes base issuing (idle given)) (WriteFailed left reads taken writes base issuing (idle given)) (left given.0) (left given.0) (taken given.1); later = seen_nothing }, stopped given),
    are_files requests,
  )

  pub not_begun : (decks requests : List (I × K)) → 0 < length (decks ++ requests) → RunsTogether left reads taken writes base issuing [] None statuses.NoMemory decks requests (decks ++ requests)
  not_begun decks requests some =
      let both = over_both (idle {I = I} {K = K}) decks requests in
      record {
        deck_workers = map idle decks;
        file_workers = map idle requests;
        are_decks = decks_ran left reads taken writes base issuing [] None (map idle decks) (passes_from 0 (length decks)) (decks_gave 0 decks) (none_counted (length decks) 0);
        are_files = are_files requests;
        of_decks = All-nil (λ (entry : Accepted). entry.deck < length decks);
        decks_are = given_again decks;
        requests_are = given_again requests;
        outs_are = ap (map (λ (w : Worked I K). w.back)) (sym both) ∙ back_again (decks ++ requests);
        status_is = no_memory (decks ++ requests) some ∙ ap (λ (l : List (Worked I K)). greatest (map (λ w. w.status) l)) both;
        halted_status = λ halts. absurd (cc);
        one_fault = faults_ran left reads taken writes base issuing [] None (map idle decks) (passes_from 0 (length decks)) (decks_gave 0 decks) (none_failed (length decks) 0);
      }
