-- What every crash leaves along a stream: what stands for the position behind some front of its statements.
use Rattle.std.proofs.Common.{◌≡◌, ℕ, ◌≤◌, Bool, true, false, List, [], ◌∷◌, ◌++◌, None, Some, inl, inr, refl, sym, ◌∙◌, ap, subst, arith}
use Rattle.std.specs.Prelude.{Option, ◌⊎◌}
use Rattle.std.proofs.Math.Nat.{le_trans}
use Rattle.racf_outside.specs.Causes.{Rose}
use Rattle.racf_outside.specs.Disk.{History}
use Rattle.racf_outside.specs.Reader.{Reader, at_start}
use Rattle.racf_outside.proofs.Rises.{Rose-later}
use Rattle.racf_outside.proofs.Runs.{Leaves-weaker, StaysIn-none, StaysIn-joined, StaysIn-weaker}
use Rattle.racf_checkpoint.specs.Stored.{StoreOn}
use Rattle.desk_rules.specs.Durable.{SameIdle, IdleDisk, idle_of, BesideIdle, LeavesIt, StaysEither}
use Rattle.desk_rules.proofs.IdleLaws.{same_idle, same_idle-then, same_idle-told, beside-weaker}
use Rattle.desk_rules.specs.Position.{Position}
use Rattle.desk_rules.specs.Recovery.{StandsFor, StandsForEither}
use Rattle.statements.specs.declared.issuer.Issuing.{Issuing}
use Rattle.statements.specs.declared.statement.Statement.{Statement}
use Rattle.racf_stream.specs.Durable.{StreamOn, Moves, MovesBy, StandsForFront, StaysAlong, fault_in, most_left_of}
use Rattle.statements.specs.NextStatement.{TakesStatements}
use Rattle.racf_stream.specs.Processing.{Works}
use Rattle.statements.specs.Runs.{output}
use Rattle.racf_stream.specs.Script.{stream, fault_at}
use Rattle.statements.specs.Inputs.{statements}
use Rattle.racf_stream.specs.Stream.{State, number_of, new_stream, answer, step}
use Rattle.racf_stream.proofs.Faults.{step_is, step_few}
use Rattle.racf_stream.proofs.LeftLaws.{left_at_least, left_grows, answer_left}
use Rattle.statements.proofs.Walk.{Walk, Walk-none, Walk-items, Walk-first}
use Rattle.racf_stream.proofs.StreamWalk.{StreamWalk}

-- where the stream is, some front of the statements led
stands_walked : (issuing : Issuing) (base : Position) (source : Option (List ℕ)) (reader : Reader) (slack : ℕ) (s : State) (before now : Option (List ℕ)) (gathered : List ℕ) → Walk (stream None issuing base) source reader slack s before now gathered
    → (most : ℕ) → number_of s ≤ most
    → (position : Position) → position ≡ s.position → (one other : List ℕ) → StandsFor position one other → StandsForFront issuing base source most one other
stands_walked issuing base source reader slack s before now gathered w most few position is one other stands =
    record {
      read = w.read;
      more = reader.unread;
      given = w.given;
      done = w.done;
      begins = Walk-first (stream None issuing base) source reader slack s before now gathered w;
      stands = subst (λ p. StandsFor p one other) (is ∙ ap (λ (x : State). x.position) w.state) stands;
      within = subst (λ (x : State). number_of x ≤ most) w.state few;
    }

-- A front of few commands is one of no more than are more than these.
pub front_of_more : (issuing : Issuing) (base : Position) (source : Option (List ℕ)) (few most : ℕ) → few ≤ most → (one other : List ℕ) → StandsForFront issuing base source few one other → StandsForFront issuing base source most one other
front_of_more issuing base source few most more one other front =
    record {
      read = front.read;
      more = front.more;
      given = front.given;
      done = front.done;
      begins = front.begins;
      stands = front.stands;
      within = let within = front.within in omega (arith, within, more);
    }

pub along_of_more : {D : Type 0} (tells : D → Option History) (issuing : Issuing) (base : Position) (source : Option (List ℕ)) (few most : ℕ) (old new : StoreOn D) → few ≤ most
    → StaysAlong tells issuing base source few old new → StaysAlong tells issuing base source most old new
along_of_more tells issuing base source few most old new more along =
    StaysIn-weaker (BesideIdle (idle_of tells old) (StandsForFront issuing base source most)) along
    (λ h told one p. beside-weaker (idle_of tells old) (StandsForFront issuing base source few) (StandsForFront issuing base source most) (front_of_more issuing base source few most more) one p)

new_position : (issuing : Issuing) (base : Position) → base ≡ (new_stream issuing base).position
unfolding new_stream
new_position issuing base = refl

-- Before the first statement.
pub StaysAlong-none : {D : Type 0} (tells : D → Option History) (issuing : Issuing) (base : Position) (source : Option (List ℕ)) (most : ℕ) (store : StoreOn D) → base.image.generation ≤ most → LeavesIt tells store base
    → StaysAlong tells issuing base source most store store
StaysAlong-none tells issuing base source most store few leaves =
    let front : (one other : List ℕ) → StandsFor base one other → StandsForFront issuing base source most one other =
    stands_walked issuing base source (at_start source 0) 0 (new_stream issuing base) None None [] (Walk-none (stream None issuing base) source None 0)
    most (subst (λ (p : Position). p.image.generation ≤ most) (new_position issuing base) few) base (new_position issuing base) in
    StaysIn-none (BesideIdle (idle_of tells store) (StandsForFront issuing base source most)) (tells store.journal.disk)
    (λ h told. Leaves-weaker (BesideIdle (idle_of tells store) (StandsFor base)) (BesideIdle (idle_of tells store) (StandsForFront issuing base source most)) h.now
    (beside-weaker (idle_of tells store) (StandsFor base) (StandsForFront issuing base source most) front) (leaves h told))

-- The stream goes on.
module _ {D : Type 0} (tells : D → Option History) (faults : D → ℕ) (issuing : Issuing) (base : Position) (source : Option (List ℕ)) (first : StoreOn D) (s t : StreamOn D) where
  -- nothing was done to the disks
  same_store : t.store ≡ s.store → (most : ℕ) → StaysAlong tells issuing base source most first s.store → StaysAlong tells issuing base source most first t.store
  same_store is most along = subst (λ (store : StoreOn D). StaysAlong tells issuing base source most first store) (sym is) along

  -- a command stands on them, or doesn't
  one_more : (old new : Reader) (item : Statement) (bytes : List ℕ) (before now : Option (List ℕ)) (gathered : List ℕ) (most : ℕ)
      → Walk (stream None issuing base) source old 0 s.state before now gathered → TakesStatements statements (item ∷ []) bytes old new → SameIdle first s.store
      → number_of s.state ≤ most → number_of (answer None item s.state).state ≤ most
      → StaysEither tells s.store t.store s.state.position (answer None item s.state).state.position → StaysAlong tells issuing base source most first s.store → StaysAlong tells issuing base source most first t.store
  one_more old new item bytes before now gathered most w takes idle few more either along =
      let m = stream None issuing base in
      let next : State = step None item s.state in
      let same : (answer None item s.state).state ≡ next = sym (step_is None item s.state) in
      let behind : Walk m source new 1 next before now (gathered ++ output m (item ∷ []) s.state) = Walk-items m (item ∷ []) bytes source old new 1 s.state next before now gathered (gathered ++ output m (item ∷ []) s.state) w takes tt refl refl (let few = step_few None item s.state in omega (arith, few)) in
      let front : (one other : List ℕ) → StandsForEither s.state.position (answer None item s.state).state.position one other → StandsForFront issuing base source most one other =
      by_either s.state.position (answer None item s.state).state.position (stands_walked issuing base source old 0 s.state before now gathered w most few s.state.position refl)
      (stands_walked issuing base source new 1 next before now (gathered ++ output m (item ∷ []) s.state) behind most (subst (λ (x : State). number_of x ≤ most) same more) (answer None item s.state).state.position (ap (λ (x : State). x.position) same)) in
      StaysIn-joined along
      (StaysIn-weaker (BesideIdle (idle_of tells first) (StandsForFront issuing base source most)) either
      (λ h told one p. beside-weaker (idle_of tells first) (StandsForEither s.state.position (answer None item s.state).state.position) (StandsForFront issuing base source most) front one
      (subst (λ (d : IdleDisk). BesideIdle d (StandsForEither s.state.position (answer None item s.state).state.position) one) (same_idle-told tells first s.store idle) p)))
    where
      by_either : (p q : Position) → ((one other : List ℕ) → StandsFor p one other → StandsForFront issuing base source most one other) → ((one other : List ℕ) → StandsFor q one other → StandsForFront issuing base source most one other)
          → (one other : List ℕ) → StandsForEither p q one other → StandsForFront issuing base source most one other
      by_either p q l r one other (inl x) = l one other x
      by_either p q l r one other (inr x) = r one other x

  -- a statement was worked
  pub moved : (old new : Reader) (item : Statement) (bytes : List ℕ) (before now : Option (List ℕ)) (gathered more : List ℕ)
      → StreamWalk issuing base source old 0 s.state before now gathered → TakesStatements statements (item ∷ []) bytes old new → Works issuing base (Some item) s t gathered more → SameIdle first s.store
      → Moves tells faults item s t → StaysAlong tells issuing base source (most_left_of s.state) first s.store → StaysAlong tells issuing base source (most_left_of t.state) first t.store
  moved old new item bytes before now gathered more w takes works idle moves along = by moves.moments
    where
      behind : t.state ≡ (answer (fault_in t) item s.state).state
      behind = works.state ∙ step_is (fault_in t) item s.state

      grows : most_left_of s.state ≤ most_left_of t.state
      grows = subst (λ (x : State). most_left_of s.state ≤ most_left_of x) (sym behind) (left_grows (fault_in t) item s.state)

      wider : StaysAlong tells issuing base source (most_left_of t.state) first s.store
      wider = along_of_more tells issuing base source (most_left_of s.state) (most_left_of t.state) first s.store grows along

      by : (t.store ≡ s.store) ⊎ ((s.state.halted ≡ false) × StaysEither tells s.store t.store s.state.position (answer None item s.state).state.position) → StaysAlong tells issuing base source (most_left_of t.state) first t.store
      by (inl is) = same_store is (most_left_of t.state) wider
      by (inr either) =
          one_more old new item bytes before now gathered (most_left_of t.state)
          (subst (λ fault. Walk (stream fault issuing base) source old 0 s.state before now gathered) (ap (λ h. fault_at h (number_of s.state)) either.0) w) takes idle
          (le_trans (left_at_least s.state.halted (number_of s.state)) grows)
          (subst (λ (x : State). number_of (answer None item s.state).state ≤ most_left_of x) (sym behind) (answer_left (fault_in t) item s.state either.0)) either.1 wider

  -- the stream is as it was
  pub moved_none : t ≡ s → StaysAlong tells issuing base source (most_left_of s.state) first s.store → StaysAlong tells issuing base source (most_left_of t.state) first t.store
  moved_none same along = subst (λ (x : StreamOn D). StaysAlong tells issuing base source (most_left_of x.state) first x.store) (sym same) along

  pub idle_still : (given : Option Statement) → MovesBy tells faults given s t → SameIdle first s.store → SameIdle first t.store
  idle_still None is idle = same_idle-then first s.store t.store idle (same_idle s.store t.store (ap (λ (x : StreamOn D). x.store) is))
  idle_still (Some item) moves idle = same_idle-then first s.store t.store idle moves.idle

  pub no_fewer : (given : Option Statement) → MovesBy tells faults given s t → faults first.journal.disk ≤ faults s.store.journal.disk → faults first.journal.disk ≤ faults t.store.journal.disk
  no_fewer None is h = subst (λ (x : StreamOn D). faults first.journal.disk ≤ faults x.store.journal.disk) (sym is) h
  no_fewer (Some item) moves h = let more = moves.no_fewer in omega (arith, more, h)

  pub halts : (given : Option Statement) → MovesBy tells faults given s t → faults first.journal.disk ≤ faults s.store.journal.disk
      → (s.state.halted ≡ true → Rose (faults first.journal.disk) (faults s.store.journal.disk)) → t.state.halted ≡ true → Rose (faults first.journal.disk) (faults t.store.journal.disk)
  halts None is h rose halted = subst (λ (x : StreamOn D). Rose (faults first.journal.disk) (faults x.store.journal.disk)) (sym is) (rose (ap (λ (x : StreamOn D). x.state.halted) (sym is) ∙ halted))
  halts (Some item) moves h rose halted = by s.state.halted refl
    where
      by : (b : Bool) → s.state.halted ≡ b → Rose (faults first.journal.disk) (faults t.store.journal.disk)
      by true was = let more = moves.no_fewer in rose_on (faults first.journal.disk) (faults s.store.journal.disk) (faults t.store.journal.disk) (rose was) more
        where
          rose_on : (a b c : ℕ) → Rose a b → b ≤ c → Rose a c
          rose_on a b c r le = grind arith
      by false was = Rose-later (faults first.journal.disk) (faults s.store.journal.disk) (faults t.store.journal.disk) h (moves.cause was halted)
