-- From what each worker did to what a run is.
use Rattle.std.proofs.Common.{◌≡◌, ℕ, zero, suc, ◌+◌, ◌≤◌, nat_lt, Bool, true, false, List, [], ◌∷◌, ◌++◌, map, length, Some, None, inl, inr, refl, sym, ◌∙◌, ap, subst, arith, append-nil, add-zero}
use Rattle.std.specs.Prelude.{Option, ◌⊎◌, is_some, if◌then◌else◌}
use Rattle.std.specs.List.{All, AllZip, cons_option, filter_map, sum_by}
use Rattle.std.proofs.lemmas.List.{length-map}
use Rattle.std.proofs.lemmas.List.Elements.{All-head, All-tail}
use Rattle.desk_rules.specs.Position.{Position}
use Rattle.command_history.specs.declared.events.Accepted.{Accepted}
use Rattle.command_history.specs.declared.events.Event.{Event}
use Rattle.command_history.specs.Events.{all_of, failed_of, Extends}
use Rattle.raclist_snapshots.specs.Publishing.{Seeing}
use Rattle.racroute.specs.Core.{Passing, new_passes}
use Rattle.racroute.specs.Kept.{fault_count}
use Rattle.statements.specs.declared.issuer.Issuing.{Issuing}
use Rattle.statements.specs.declared.status.Status.{Status}
use Rattle.statements.specs.declared.status.Status.TheVariants as statuses
use Rattle.statements.specs.Status.{code_of}
use Rattle.racf_workers.proofs.DeckLaws.{stays_marked}
use Rattle.racf_threads.specs.Outputs.{new_pass}
use Rattle.racf_threads.specs.Together.{Worked, AreFiles, RunsTogether, greater, greatest}
use Rattle.racf_threads.specs.Working.{Working, new_worker, new_workers, Gave, Answered, HasWorked}
use Rattle.racf_threads.proofs.Gave.{DecksGave}
use Rattle.racf_threads.proofs.Own.{decks_ran, of_decks, faults_ran, halted_told}

-- ---- passes

-- so many passes, which number from this one on
abbrev pub passes_from : (deck count : ℕ) → List Passing
passes_from deck zero = []
passes_from deck (suc count) = new_pass deck ∷ passes_from (suc deck) count

one_pass_more : (count deck : ℕ) → passes_from deck count ++ new_pass (deck + count) ∷ [] ≡ passes_from deck (suc count)
one_pass_more zero deck = rw add-zero
one_pass_more (suc count) deck =
    let e : deck + suc count ≡ suc deck + count = omega arith in
    rw e (ap (λ (l : List Passing). new_pass deck ∷ l) (one_pass_more count (suc deck)))

pub passes_are : (count : ℕ) → new_passes count ≡ passes_from 0 count
passes_are zero = refl
passes_are (suc count) =
    let e : 0 + count ≡ count = omega arith in
    ap (λ (l : List Passing). l ++ new_pass count ∷ []) (passes_are count) ∙ rw e at (one_pass_more count 0)

-- ---- what the callers saw

abbrev pub Later : {I K : Type 0} → (whole : List Event) → List (Working I K) → Type 0
Later whole [] = Unit {0}
Later whole (w ∷ workers) = Extends w.caller.events whole × Later whole workers

pub later : {I K : Type 0} (whole : List Event) (workers : List (Working I K)) → All (λ (caller : Seeing). Extends caller.events whole) (map (λ w. w.caller) workers) → Later whole workers
later whole [] all = tt
later whole (w ∷ workers) all =
    let P : Seeing → Type 0 = λ caller. Extends caller.events whole in
    let rest : List Seeing = map (λ v. v.caller) workers in (All-head P w.caller rest all, later whole workers (All-tail P w.caller rest all))

-- ---- an item of a list of those that are there

with_item : {Y : Type 0} (item : Option Y) (there : Y) (items all : List Y) → item ≡ Some there → items ≡ all → cons_option item items ≡ there ∷ all
with_item item there items all is rest = rw (is, rest)

with_none : {Y : Type 0} (item : Option Y) (items all : List Y) → item ≡ None → items ≡ all → cons_option item items ≡ all
with_none item items all is rest = rw (is, rest)

pub over_both : {X Y : Type 0} (f : X → Y) (xs ys : List X) → map f (xs ++ ys) ≡ map f xs ++ map f ys
over_both f [] ys = refl
over_both f (x ∷ xs) ys = ap (λ l. f x ∷ l) (over_both f xs ys)

one_failed : (doubt : Option Accepted) → is_some doubt ≡ true → fault_count doubt ≡ 1
one_failed (Some entry) there = refl
one_failed None there = absurd (cc)

-- ---- a worker's status

either_of : (one other status : Status) → greater one other ≡ status → (one ≡ status) ⊎ (other ≡ status)
either_of one other status = by (nat_lt (code_of one) (code_of other))
  where
    by : (b : Bool) → (if b then other else one) ≡ status → (one ≡ status) ⊎ (other ≡ status)
    by true is = inr is
    by false is = inl is

module _ {I K : Type 0} (left : I → Option (List ℕ)) (reads : I → ℕ) (taken : K → Option (List ℕ)) (writes : K → ℕ) (base : Position) (issuing : Issuing) where
  gave_of : (pass : Passing) (given : I × K) (new : Working I K) → HasWorked left reads taken writes base issuing (new_worker (Some pass) given) new → Gave left reads taken writes base issuing pass given (new_worker (Some pass) given) new
  unfolding HasWorked
  gave_of pass given new did = did

  answered_of : (given : I × K) (new : Working I K) → HasWorked left reads taken writes base issuing (new_worker None given) new → Answered left reads taken writes base issuing given (new_worker None given) new
  unfolding HasWorked
  answered_of given new did = did

  -- Where one ended by a disk fault, the history has ended so.
  pub failed : (whole : List Event) (passes : List Passing) (files : List (I × K)) (news : List (Working I K)) → AllZip (HasWorked left reads taken writes base issuing) (new_workers passes files) news → Later whole news
      → greatest (map (λ w. w.status) news) ≡ statuses.DiskFault → is_some (failed_of whole) ≡ true
  failed whole passes [] [] did seen is = cc
  failed whole passes [] (new ∷ news) did seen is = absurd did
  failed whole [] (given ∷ files) [] did seen is = absurd did
  failed whole (pass ∷ passes) (given ∷ files) [] did seen is = absurd did
  failed whole [] (given ∷ files) (new ∷ news) did seen is =
      elim (either_of new.status (greatest (map (λ w. w.status) news)) statuses.DiskFault is) [
        | inl here ↦ absurd ((answered_of given new did.0).failed here)
        | inr there ↦ failed whole [] files news did.1 seen.1 there
      ]
  failed whole (pass ∷ passes) (given ∷ files) (new ∷ news) did seen is =
      elim (either_of new.status (greatest (map (λ w. w.status) news)) statuses.DiskFault is) [
        | inl here ↦ stays_marked new.caller.events whole seen.0 ((gave_of pass given new did.0).failed here)
        | inr there ↦ failed whole passes files news did.1 seen.1 there
      ]

  -- ---- request files

  pub record Files (whole : List Event) (requests : List (I × K)) (news : List (Working I K)) : Type 0 where
    pub workers : List (Worked I K)
    pub are : AreFiles left reads taken writes base issuing whole workers
    pub given_are : map (λ w. w.given) workers ≡ requests
    pub outs : filter_map (λ w. w.files) news ≡ map (λ w. w.back) workers
    pub ends : filter_map (λ w. w.end) news ≡ []
    pub status : map (λ w. w.status) news ≡ map (λ w. w.status) workers

  files : (whole : List Event) (requests : List (I × K)) (news : List (Working I K)) → AllZip (HasWorked left reads taken writes base issuing) (new_workers [] requests) news → Later whole news → Files whole requests news
  files whole [] [] did seen = record { workers = []; are = tt; given_are = refl; outs = refl; ends = refl; status = refl }
  files whole [] (new ∷ news) did seen = absurd did
  files whole (given ∷ requests) [] did seen = absurd did
  files whole (given ∷ requests) (new ∷ news) did seen =
      let one = answered_of given new did.0 in
      let rest = files whole requests news did.1 seen.1 in
      let w : Worked I K = record { given = given; back = one.back; status = new.status; faults = 0 } in
      record {
        workers = w ∷ rest.workers;
        are = ((record { seen = new.caller.events; answers = one.answers; later = seen.0 }, one.stops), rest.are);
        given_are = ap (λ (l : List (I × K)). given ∷ l) rest.given_are;
        outs = with_item new.files one.back (filter_map (λ w. w.files) news) (map (λ w. w.back) rest.workers) one.files_are rest.outs;
        ends = with_none new.end (filter_map (λ w. w.end) news) [] one.end_is rest.ends;
        status = ap (λ (l : List Status). new.status ∷ l) rest.status;
      }

  -- ---- decks

  pub record Decks (whole : List Event) (deck : ℕ) (decks requests : List (I × K)) (news : List (Working I K)) : Type 0 where
    pub workers : List (Worked I K)
    pub backs : List Passing
    pub rest : List (Working I K)
    pub gave : DecksGave left reads taken writes base issuing whole deck workers backs
    pub given_are : map (λ w. w.given) workers ≡ decks
    pub did : AllZip (HasWorked left reads taken writes base issuing) (new_workers [] requests) rest
    pub seen : Later whole rest
    pub outs : filter_map (λ w. w.files) news ≡ map (λ w. w.back) workers ++ filter_map (λ w. w.files) rest
    pub ends : filter_map (λ w. w.end) news ≡ backs ++ filter_map (λ w. w.end) rest
    pub status : map (λ w. w.status) news ≡ map (λ w. w.status) workers ++ map (λ w. w.status) rest

  decks_of : (whole : List Event) (deck : ℕ) (decks requests : List (I × K)) (news : List (Working I K))
      → AllZip (HasWorked left reads taken writes base issuing) (new_workers (passes_from deck (length decks)) (decks ++ requests)) news → Later whole news → Decks whole deck decks requests news
  decks_of whole deck [] requests news did seen =
      record { workers = []; backs = []; rest = news; gave = tt; given_are = refl; did = did; seen = seen; outs = refl; ends = refl; status = refl }
  decks_of whole deck (given ∷ decks) requests [] did seen = absurd did
  decks_of whole deck (given ∷ decks) requests (new ∷ news) did seen =
      let one = gave_of (new_pass deck) given new did.0 in
      let more = decks_of whole (suc deck) decks requests news did.1 seen.1 in
      let w : Worked I K = record { given = given; back = one.back; status = new.status; faults = one.counted.faults } in
      record {
        workers = w ∷ more.workers;
        backs = one.counted ∷ more.backs;
        rest = more.rest;
        gave = (record { seen = new.caller.events; gives = one.gives; later = seen.0; told = one.told }, one.stops, refl, more.gave);
        given_are = ap (λ (l : List (I × K)). given ∷ l) more.given_are;
        did = more.did;
        seen = more.seen;
        outs = with_item new.files one.back (filter_map (λ w. w.files) news) (map (λ w. w.back) more.workers ++ filter_map (λ w. w.files) more.rest) one.files_are more.outs;
        ends = with_item new.end one.counted (filter_map (λ w. w.end) news) (more.backs ++ filter_map (λ w. w.end) more.rest) one.end_is more.ends;
        status = ap (λ (l : List Status). new.status ∷ l) more.status;
      }

  -- ---- a whole run

  pub runs : (entries : List Accepted) (doubt : Option Accepted) (decks requests : List (I × K)) (news : List (Working I K))
      → AllZip (HasWorked left reads taken writes base issuing) (new_workers (new_passes (length decks)) (decks ++ requests)) news
      → All (λ (caller : Seeing). Extends caller.events (all_of entries doubt)) (map (λ w. w.caller) news)
      → sum_by (λ (p : Passing). p.commands) (filter_map (λ w. w.end) news) ≡ length entries
      → sum_by (λ (p : Passing). p.faults) (filter_map (λ w. w.end) news) ≡ fault_count doubt
      → RunsTogether left reads taken writes base issuing entries doubt (greatest (map (λ w. w.status) news)) decks requests (filter_map (λ w. w.files) news)
  runs entries doubt decks requests news did seen commands faults =
      let whole = all_of entries doubt in
      let from = subst (λ (l : List Passing). AllZip (HasWorked left reads taken writes base issuing) (new_workers l (decks ++ requests)) news) (passes_are (length decks)) did in
      let d = decks_of whole 0 decks requests news from (later whole news seen) in
      let f = files whole requests d.rest d.did d.seen in
      let backs_are : filter_map (λ (w : Working I K). w.end) news ≡ d.backs = d.ends ∙ (ap (λ (l : List Passing). d.backs ++ l) f.ends ∙ append-nil d.backs) in
      let statuses_are : map (λ (w : Working I K). w.status) news ≡ map (λ (w : Worked I K). w.status) (d.workers ++ f.workers) =
      d.status ∙ (ap (λ (l : List Status). map (λ (w : Worked I K). w.status) d.workers ++ l) f.status ∙ sym (over_both (λ (w : Worked I K). w.status) d.workers f.workers)) in
      let one_fault : sum_by (λ (w : Worked I K). w.faults) d.workers ≡ fault_count doubt =
      faults_ran left reads taken writes base issuing entries doubt d.workers d.backs d.gave (subst (λ (l : List Passing). sum_by (λ (p : Passing). p.faults) l ≡ fault_count doubt) backs_are faults) in
      record {
        deck_workers = d.workers;
        file_workers = f.workers;
        are_decks = decks_ran left reads taken writes base issuing entries doubt d.workers d.backs d.gave (subst (λ (l : List Passing). sum_by (λ (p : Passing). p.commands) l ≡ length entries) backs_are commands);
        are_files = f.are;
        of_decks = of_decks left reads taken writes base issuing entries doubt d.workers d.backs (length decks) (sym (length-map d.workers (λ (w : Worked I K). w.given)) ∙ ap length d.given_are) d.gave
            (subst (λ (l : List Passing). sum_by (λ (p : Passing). p.commands) l ≡ length entries) backs_are commands);
        decks_are = d.given_are;
        requests_are = f.given_are;
        outs_are = over_both (λ (w : Worked I K). w.back) d.workers f.workers ∙ sym (d.outs ∙ ap (λ (l : List (I × K)). map (λ (w : Worked I K). w.back) d.workers ++ l) f.outs);
        status_is = ap greatest statuses_are;
        one_fault = one_fault;
        halted_status = λ halts.
            subst (λ (l : List Status). 20 ≤ code_of (greatest l)) (sym statuses_are)
            (halted_told left reads taken writes base issuing whole 0 d.workers f.workers d.backs d.gave (let one = one_fault ∙ one_failed doubt halts in omega arith));
      }

  -- As many passes are handed in as there are decks.
  pub ends_are : (passes : List Passing) (files : List (I × K)) (news : List (Working I K)) → length passes ≤ length files → AllZip (HasWorked left reads taken writes base issuing) (new_workers passes files) news
      → length (filter_map (λ w. w.end) news) ≡ length passes
  ends_are passes [] [] few did = omega arith
  ends_are passes [] (new ∷ news) few did = absurd did
  ends_are [] (given ∷ files) [] few did = absurd did
  ends_are (pass ∷ passes) (given ∷ files) [] few did = absurd did
  ends_are [] (given ∷ files) (new ∷ news) few did =
      let one = answered_of given new did.0 in rw one.end_is (ends_are [] files news (omega arith) did.1)
  ends_are (pass ∷ passes) (given ∷ files) (new ∷ news) few did =
      let one = gave_of pass given new did.0 in
      rw one.end_is (let rest = ends_are passes files news (omega arith) did.1 in omega arith)
