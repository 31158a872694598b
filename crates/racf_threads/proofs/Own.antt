-- In a run in which as many commands were accepted as there are entries, the entries of each deck are exactly those of
-- its accepted commands.
use Rattle.std.proofs.Common.{◌≡◌, ℕ, zero, suc, ◌+◌, ◌<◌, ◌≤◌, Bool, List, [], ◌∷◌, ◌++◌, map, length, inl, inr, refl, sym, ◌∙◌, ap, subst, arith}
use Rattle.std.specs.Prelude.{Option, ◌⊎◌}
use Rattle.std.specs.List.{All, sum_by}
use Rattle.std.proofs.lemmas.List.Sums.{sum_by-cons}
use Rattle.desk_rules.specs.Position.{Position}
use Rattle.command_history.specs.declared.events.Accepted.{Accepted}
use Rattle.command_history.specs.declared.events.Event.{Event}
use Rattle.command_history.specs.Events.{entries_of, all_of, Extends}
use Rattle.command_history.proofs.Extensions.{extends_trans, entries_of_all}
use Rattle.racroute.specs.Core.{Passing}
use Rattle.racroute.specs.Kept.{fault_count}
use Rattle.statements.specs.declared.issuer.Issuing.{Issuing}
use Rattle.statements.specs.declared.status.Status.{Status}
use Rattle.statements.specs.Status.{code_of}
use Rattle.racf_workers.proofs.DeckLaws.{stays_marked}
use Rattle.racf_threads.specs.Outputs.{entries_by, made_in, state_of, DeckRan}
use Rattle.racf_threads.specs.Together.{Worked, ReadFailed, WriteFailed, AreDecks, greatest}
use Rattle.racf_threads.proofs.Statuses.{one_of}
use Rattle.racf_threads.proofs.Entries.{IsWithin, within_later, count_from, count_all, count_split, all_below}
use Rattle.racf_threads.proofs.Doubts.{doubted_later}
use Rattle.racf_threads.proofs.Turns.{KeptAt, kept_behind}
use Rattle.racf_threads.proofs.Gave.{DeckGave, DecksGave}

-- ---- one deck

module _ (base : Position) (issuing : Issuing) (whole : List Event) (deck : ℕ) (back : Passing) (read_failed write_failed : Type 0) (status : Status) (source left sunk now : Option (List ℕ)) (gave : DeckGave base issuing whole deck back read_failed write_failed status source left sunk now) where
  at_end : KeptAt deck (state_of gave.gives)
  at_end = kept_behind base issuing deck gave.gives.schedule gave.gives.ran.worked gave.gives.ran.stands.course

  -- what was seen behind the last command is a beginning of the whole
  seen_before : Extends (state_of gave.gives).seen whole
  seen_before = extends_trans (state_of gave.gives).seen gave.seen whole gave.gives.ran.stands.later gave.later

  within_whole : IsWithin (made_in (state_of gave.gives).turns) (entries_by deck (entries_of whole))
  within_whole =
      within_later deck (made_in (state_of gave.gives).turns) (state_of gave.gives).seen whole at_end.0.within seen_before

  commands_are : back.commands ≡ length (made_in (state_of gave.gives).turns)
  commands_are = ap (λ (p : Passing). p.commands) (sym gave.gives.ran.stands.counts) ∙ at_end.0.commands

  -- A deck was accepted no more commands than it has entries.
  fits : back.commands ≤ length (entries_by deck (entries_of whole))
  fits = subst (λ (n : ℕ). n ≤ length (entries_by deck (entries_of whole))) (sym commands_are) within_whole.fits

  -- Where it has no more, they are those of its commands.
  deck_ran : (faults : ℕ) → faults ≡ back.faults → length (entries_by deck (entries_of whole)) ≤ back.commands → DeckRan base issuing whole deck faults read_failed write_failed status source left sunk now
  deck_ran faults faults_are le =
      record {
        seen = gave.seen;
        back = back;
        gives = gave.gives;
        later = gave.later;
        own = within_whole.whole (subst (λ (n : ℕ). length (entries_by deck (entries_of whole)) ≤ n) commands_are le);
        counted = sym at_end.0.failed ∙ (ap (λ (p : Passing). p.faults) gave.gives.ran.stands.counts ∙ sym faults_are);
        doubted = doubted_later deck (state_of gave.gives).seen whole seen_before (state_of gave.gives).turns at_end.1;
        told = λ some. gave.told (omega arith);
        failed = λ h. stays_marked (state_of gave.gives).seen whole seen_before (gave.gives.ran.stands.failed h);
      }

-- ---- all decks

module _ {I K : Type 0} (left : I → Option (List ℕ)) (reads : I → ℕ) (taken : K → Option (List ℕ)) (writes : K → ℕ) (base : Position) (issuing : Issuing) where
  module _ (whole : List Event) where
    -- they were accepted no more commands than there are entries of these decks
    all_fit : (deck : ℕ) (workers : List (Worked I K)) (backs : List Passing) → DecksGave left reads taken writes base issuing whole deck workers backs
        → sum_by (λ (b : Passing). b.commands) backs ≤ count_from deck (entries_of whole)
    all_fit deck [] [] gave = omega arith
    all_fit deck [] (back ∷ backs) gave = absurd gave
    all_fit deck (w ∷ workers) [] gave = absurd gave
    all_fit deck (w ∷ workers) (back ∷ backs) gave =
        let first = fits base issuing whole deck back (ReadFailed left reads taken writes base issuing w) (WriteFailed left reads taken writes base issuing w) w.status (left w.given.0) (left w.back.0) (taken w.given.1) (taken w.back.1) gave.0 in
        let rest = all_fit (suc deck) workers backs gave.3 in
        let split = count_split deck (entries_of whole) in
        let sum = sum_by-cons (λ (b : Passing). b.commands) back backs in
        omega arith

    ran_from : (deck : ℕ) (workers : List (Worked I K)) (backs : List Passing) → DecksGave left reads taken writes base issuing whole deck workers backs
        → count_from deck (entries_of whole) ≤ sum_by (λ (b : Passing). b.commands) backs → AreDecks left reads taken writes base issuing whole deck workers
    ran_from deck [] [] gave le = tt
    ran_from deck [] (back ∷ backs) gave le = absurd gave
    ran_from deck (w ∷ workers) [] gave le = absurd gave
    ran_from deck (w ∷ workers) (back ∷ backs) gave le =
        let first = fits base issuing whole deck back (ReadFailed left reads taken writes base issuing w) (WriteFailed left reads taken writes base issuing w) w.status (left w.given.0) (left w.back.0) (taken w.given.1) (taken w.back.1) gave.0 in
        let rest = all_fit (suc deck) workers backs gave.3 in
        let split = count_split deck (entries_of whole) in
        let sum = sum_by-cons (λ (b : Passing). b.commands) back backs in
        let own : length (entries_by deck (entries_of whole)) ≤ back.commands = omega arith in
        let others : count_from (suc deck) (entries_of whole) ≤ sum_by (λ (b : Passing). b.commands) backs = omega arith in (
          (deck_ran base issuing whole deck back (ReadFailed left reads taken writes base issuing w) (WriteFailed left reads taken writes base issuing w) w.status (left w.given.0) (left w.back.0) (taken w.given.1) (taken w.back.1) gave.0 w.faults gave.2 own, gave.1),
          ran_from (suc deck) workers backs gave.3 others,
        )

    -- Behind these decks there are no more entries than were not counted.
    left_behind : (deck : ℕ) (workers : List (Worked I K)) (backs : List Passing) → DecksGave left reads taken writes base issuing whole deck workers backs
        → count_from (deck + length workers) (entries_of whole) + sum_by (λ (b : Passing). b.commands) backs ≤ count_from deck (entries_of whole)
    left_behind deck [] [] gave =
        let same : count_from (deck + 0) (entries_of whole) ≡ count_from deck (entries_of whole) = ap (λ (n : ℕ). count_from n (entries_of whole)) (omega arith) in
        omega arith
    left_behind deck [] (back ∷ backs) gave = absurd gave
    left_behind deck (w ∷ workers) [] gave = absurd gave
    left_behind deck (w ∷ workers) (back ∷ backs) gave =
        let first = fits base issuing whole deck back (ReadFailed left reads taken writes base issuing w) (WriteFailed left reads taken writes base issuing w) w.status (left w.given.0) (left w.back.0) (taken w.given.1) (taken w.back.1) gave.0 in
        let rest = left_behind (suc deck) workers backs gave.3 in
        let split = count_split deck (entries_of whole) in
        let sum = sum_by-cons (λ (b : Passing). b.commands) back backs in
        let moved : deck + suc (length workers) ≡ suc deck + length workers = omega arith in
        let next : count_from (deck + suc (length workers)) (entries_of whole) ≡ count_from (suc deck + length workers) (entries_of whole) =
        ap (λ (n : ℕ). count_from n (entries_of whole)) moved in
        omega arith

    faults_from : (deck : ℕ) (workers : List (Worked I K)) (backs : List Passing) → DecksGave left reads taken writes base issuing whole deck workers backs
        → sum_by (λ (w : Worked I K). w.faults) workers ≡ sum_by (λ (b : Passing). b.faults) backs
    faults_from deck [] [] gave = refl
    faults_from deck [] (back ∷ backs) gave = absurd gave
    faults_from deck (w ∷ workers) [] gave = absurd gave
    faults_from deck (w ∷ workers) (back ∷ backs) gave =
        let rest = faults_from (suc deck) workers backs gave.3 in
        let one = gave.2 in
        let sum = sum_by-cons (λ (b : Passing). b.faults) back backs in
        let sum_now = sum_by-cons (λ (v : Worked I K). v.faults) w workers in
        omega arith

  -- Where a disk failed one of their commands, the greatest status tells it, or is greater.
  pub halted_told : (whole : List Event) (deck : ℕ) (workers others : List (Worked I K)) (backs : List Passing) → DecksGave left reads taken writes base issuing whole deck workers backs
      → 0 < sum_by (λ (w : Worked I K). w.faults) workers → 20 ≤ code_of (greatest (map (λ (w : Worked I K). w.status) (workers ++ others)))
  halted_told whole deck [] others backs gave some = absurd (omega arith)
  halted_told whole deck (w ∷ workers) others [] gave some = absurd gave
  halted_told whole deck (w ∷ workers) others (back ∷ backs) gave some =
      let rest = greatest (map (λ (v : Worked I K). v.status) (workers ++ others)) in
      let sum = sum_by-cons (λ (v : Worked I K). v.faults) w workers in
      one_of w.status rest (is_some w.faults (sum_by (λ (v : Worked I K). v.faults) workers) (omega arith)
      (λ here. gave.0.told (let same = gave.2 in omega arith)) (halted_told whole (suc deck) workers others backs gave.3))
    where
      is_some : (n m : ℕ) → 0 < n + m → {A B : Type 0} → (0 < n → A) → (0 < m → B) → A ⊎ B
      is_some zero m some f g = inr (g (omega arith))
      is_some (suc n) m some f g = inl (f (omega arith))

  -- The decks of a run whose passes have counted as many accepted commands as there are entries.
  pub decks_ran : (entries : List Accepted) (doubt : Option Accepted) (workers : List (Worked I K)) (backs : List Passing) → DecksGave left reads taken writes base issuing (all_of entries doubt) 0 workers backs
      → sum_by (λ (b : Passing). b.commands) backs ≡ length entries → AreDecks left reads taken writes base issuing (all_of entries doubt) 0 workers
  decks_ran entries doubt workers backs gave counts =
      let all = ap (count_from 0) (entries_of_all entries doubt) ∙ count_all entries in
      ran_from (all_of entries doubt) 0 workers backs gave (omega arith)

  -- Each entry is of one of these decks.
  pub of_decks : (entries : List Accepted) (doubt : Option Accepted) (workers : List (Worked I K)) (backs : List Passing) (count : ℕ) → length workers ≡ count
      → DecksGave left reads taken writes base issuing (all_of entries doubt) 0 workers backs
      → sum_by (λ (b : Passing). b.commands) backs ≡ length entries → All (λ (entry : Accepted). entry.deck < count) entries
  of_decks entries doubt workers backs count are gave counts =
      let all = ap (count_from 0) (entries_of_all entries doubt) ∙ count_all entries in
      let left = left_behind (all_of entries doubt) 0 workers backs gave in
      let all_decks : 0 + length workers ≡ count = omega arith in
      let here : count_from (0 + length workers) (entries_of (all_of entries doubt)) ≡ count_from count entries =
      ap (λ (n : ℕ). count_from n (entries_of (all_of entries doubt))) all_decks ∙ ap (count_from count) (entries_of_all entries doubt) in
      all_below count entries (omega arith)

  -- As many of their commands were failed by a disk as their passes have counted.
  pub faults_ran : (entries : List Accepted) (doubt : Option Accepted) (workers : List (Worked I K)) (backs : List Passing) → DecksGave left reads taken writes base issuing (all_of entries doubt) 0 workers backs
      → sum_by (λ (b : Passing). b.faults) backs ≡ fault_count doubt → sum_by (λ (w : Worked I K). w.faults) workers ≡ fault_count doubt
  faults_ran entries doubt workers backs gave counts =
      faults_from (all_of entries doubt) 0 workers backs gave ∙ counts
