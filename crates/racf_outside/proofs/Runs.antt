-- What a crash may leave, call by call: how the moments of several calls join.
use Rattle.std.proofs.Common.{ℕ, ◌≡◌, List, [], ◌∷◌, ◌++◌, Option, None, Some, refl, sym, ◌∙◌, ap, subst, append_assoc}
use Rattle.std.specs.List.{AllByRecursion}
use Rattle.std.specs.Option.{option_map}
use Rattle.std.proofs.lemmas.Option.{none-some}
use Rattle.racf_outside.specs.Crashes.{moments, Leaves, Stays, StaysIn}
use Rattle.racf_outside.specs.Disk.{History, then_comes, goes, Now, IsFaulty, Nothing, InDoubt, Faulty}
use Rattle.racf_outside.specs.Moments.{Moment, IsImage, reads_as}

-- what reads otherwise has the same images
pub reads_as-image : (bytes : List ℕ) (m : Moment) (image : List ℕ) → IsImage m bytes → IsImage (reads_as bytes m) image → IsImage m image
reads_as-image bytes m image before i =
    record {
      no_shorter = i.no_shorter;
      no_longer = i.no_longer;
      stays = λ place within untouched. i.stays place within untouched ∙ before.stays place within untouched;
    }

pub reads_as-leaves : (P : List ℕ → Type 0) (bytes : List ℕ) (m : Moment) → IsImage m bytes → Leaves P m → Leaves P (reads_as bytes m)
reads_as-leaves P bytes m before l = record { each = λ image i. l.each image (reads_as-image bytes m image before i) }

-- a weaker property
pub Leaves-weaker : (P Q : List ℕ → Type 0) (m : Moment) → ((image : List ℕ) → P image → Q image) → Leaves P m → Leaves Q m
Leaves-weaker P Q m weaker l = record { each = λ image i. weaker image (l.each image i) }

all_weaker : (P Q : List ℕ → Type 0) (since : List Moment) → ((image : List ℕ) → P image → Q image) → AllByRecursion (Leaves P) since → AllByRecursion (Leaves Q) since
all_weaker P Q [] weaker a = tt
all_weaker P Q (m ∷ since) weaker a = (Leaves-weaker P Q m weaker a.0, all_weaker P Q since weaker a.1)

all_joined : (P : List ℕ → Type 0) (later since : List Moment) → AllByRecursion (Leaves P) later → AllByRecursion (Leaves P) since → AllByRecursion (Leaves P) (later ++ since)
all_joined P [] since a b = b
all_joined P (m ∷ later) since a b = (a.0, all_joined P later since a.1 b)

-- no call
pub Stays-none : (P : List ℕ → Type 0) (h : History) → Leaves P h.now → Stays P h h
Stays-none P h l = record { since = []; are = refl; first = l; each = tt }

-- one moment more
pub Stays-more : (P : List ℕ → Type 0) (from to : History) (m : Moment) → Stays P from to → Leaves P m → Stays P from (then_comes m to)
Stays-more P from to m s l =
    record { since = m ∷ s.since; are = ap (λ ms. m ∷ ms) s.are; first = s.first; each = (l, s.each) }

pub Stays-joined : (P : List ℕ → Type 0) (a b c : History) → Stays P a b → Stays P b c → Stays P a c
Stays-joined P a b c s t =
    record {
      since = t.since ++ s.since;
      are = t.are ∙ ap (λ ms. t.since ++ ms) s.are ∙ sym (append_assoc t.since s.since (moments a));
      first = s.first;
      each = all_joined P t.since s.since t.each s.each;
    }

pub Stays-weaker : (P Q : List ℕ → Type 0) (a b : History) → ((image : List ℕ) → P image → Q image) → Stays P a b → Stays Q a b
Stays-weaker P Q a b weaker s =
    record { since = s.since; are = s.are; first = Leaves-weaker P Q a.now weaker s.first; each = all_weaker P Q s.since weaker s.each }

-- a call that failed, behind those before it
Stays-faulty : (P : List ℕ → Type 0) (step : Moment → Moment) (a b c : History) → Stays P a b → IsFaulty step b c → Leaves P (step b.now) → Stays P a c
Stays-faulty P step a b c s (Nothing same) l = subst (Stays P a) (sym same) s
Stays-faulty P step a b c s (InDoubt bytes image is) l =
    subst (Stays P a) (sym is) (Stays-more P a b (reads_as bytes (step b.now)) s (reads_as-leaves P bytes (step b.now) image l))

-- Calls that succeeded, one after another: together they are these steps, and at every moment of them a crash leaves
-- what has P.
pub record Runs (P : List ℕ → Type 0) (a : Option History) (steps : History → History) (b : Option History) : Type 0 where
  pub is : b ≡ option_map steps a
  pub stays : (h : History) → a ≡ Some h → Stays P h (steps h)

-- before the first call
pub starts : (P : List ℕ → Type 0) (a : Option History) → ((h : History) → a ≡ Some h → Leaves P h.now) → Runs P a (λ h. h) a
starts P None l = record { is = refl; stays = λ h e. Stays-none P h (l h e) }
starts P (Some k) l = record { is = refl; stays = λ h e. Stays-none P h (l h e) }

goes_on : (step : Moment → Moment) (s : History → History) (a b c : Option History) → b ≡ option_map s a → c ≡ option_map (goes step) b → c ≡ option_map (λ h. goes step (s h)) a
goes_on step s None b c e f = f ∙ ap (option_map (goes step)) e
goes_on step s (Some h) b c e f = f ∙ ap (option_map (goes step)) e

-- a call that succeeded, where a crash behind it leaves what has P
pub ok : {P : List ℕ → Type 0} {a b c : Option History} {s : History → History} (step : Moment → Moment) → Runs P a s b → c ≡ option_map (goes step) b → ((h : History) → a ≡ Some h → Leaves P (step (s h).now)) → Runs P a (λ h. goes step (s h)) c
ok {P} {a} {b} {c} {s} step r e l =
    record {
      is = goes_on step s a b c r.is e;
      stays = λ h told. Stays-more P h (s h) (step (s h).now) (r.stays h told) (l h told);
    }

-- a call that changed nothing
pub same_told : {P : List ℕ → Type 0} {a b c : Option History} {s : History → History} → Runs P a s b → c ≡ b → Runs P a s c
same_told r e = record { is = e ∙ r.is; stays = r.stays }

told_by : (s : History → History) (a b : Option History) (h : History) → b ≡ option_map s a → a ≡ Some h → b ≡ Some (s h)
told_by s a b h is told = is ∙ ap (option_map s) told

untold_by : (s : History → History) (a b : Option History) → b ≡ option_map s a → a ≡ None → b ≡ None
untold_by s a b is untold = is ∙ ap (option_map s) untold

-- all calls succeeded
pub ends : {P : List ℕ → Type 0} {a b : Option History} {s : History → History} → Runs P a s b → StaysIn P a b
ends {P} {a} {b} {s} r =
    record {
      told = λ h told. (s h, told_by s a b h r.is told, r.stays h told);
      untold = untold_by s a b r.is;
    }

-- the last call failed
pub err : {P : List ℕ → Type 0} {a b c : Option History} {s : History → History} (step : Moment → Moment) → Runs P a s b → Faulty step b c → ((h : History) → a ≡ Some h → Leaves P (step (s h).now)) → StaysIn P a c
err {P} {a} {b} {c} {s} step r f l =
    record {
      told = λ h told.
          let k = f.told (s h) (told_by s a b h r.is told) in
          (k.0, k.1, Stays-faulty P step h (s h) k.0 (r.stays h told) k.2 (l h told));
      untold = λ untold. f.untold (untold_by s a b r.is untold);
    }

pub same_history : (h k : History) → Some h ≡ Some k → h ≡ k
same_history h k e = cc

-- what the moment has behind calls that succeeded
now_by : (Q : Moment → Type 0) (s : History → History) (a b : Option History) → b ≡ option_map s a → ((h : History) → a ≡ Some h → Q (s h).now) → Now b Q
now_by Q s None b is q h told = absurd (none-some h (sym is ∙ told))
now_by Q s (Some k) b is q h told = subst (λ i. Q i.now) (same_history (s k) h (sym is ∙ told)) (q k refl)

pub now : {P : List ℕ → Type 0} {a b : Option History} {s : History → History} (Q : Moment → Type 0) → Runs P a s b → ((h : History) → a ≡ Some h → Q (s h).now) → Now b Q
now {P} {a} {b} {s} Q r q = now_by Q s a b r.is q

-- no call
pub StaysIn-none : (P : List ℕ → Type 0) (a : Option History) → ((h : History) → a ≡ Some h → Leaves P h.now) → StaysIn P a a
StaysIn-none P a l = record { told = λ h told. (h, told, Stays-none P h (l h told)); untold = λ untold. untold }

-- one call after another
pub StaysIn-joined : {P : List ℕ → Type 0} {a b c : Option History} → StaysIn P a b → StaysIn P b c → StaysIn P a c
StaysIn-joined {P} s t =
    record {
      told = λ h told.
          let k = s.told h told in
          let l = t.told k.0 k.1 in
          (l.0, l.1, Stays-joined P h k.0 l.0 k.2 l.2);
      untold = λ untold. t.untold (s.untold untold);
    }

-- a weaker property, as the layer above speaks of it
pub StaysIn-weaker : {P : List ℕ → Type 0} {a b : Option History} (Q : List ℕ → Type 0) → StaysIn P a b → ((h : History) → a ≡ Some h → (image : List ℕ) → P image → Q image) → StaysIn Q a b
StaysIn-weaker {P} Q s weaker =
    record {
      told = λ h told. let k = s.told h told in (k.0, k.1, Stays-weaker P Q h k.0 (weaker h told) k.2);
      untold = s.untold;
    }

-- what the moment has behind a call, where it has it whenever a moment was told before
now_told : (P : List ℕ → Type 0) (Q : Moment → Type 0) (a b : Option History) → StaysIn P a b → ((h : History) → a ≡ Some h → Now b Q) → Now b Q
now_told P Q None b s q h told = absurd (none-some h (sym (s.untold refl) ∙ told))
now_told P Q (Some k) b s q h told = q k refl h told

pub now_if : {P : List ℕ → Type 0} {a b : Option History} (Q : Moment → Type 0) → StaysIn P a b → ((h : History) → a ≡ Some h → Now b Q) → Now b Q
now_if {P} {a} {b} Q s q = now_told P Q a b s q
