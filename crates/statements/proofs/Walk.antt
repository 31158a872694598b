-- A run so far: which bytes were read, which items they are, what was written for them, and what is gathered. Each stop
-- follows from it.
use Rattle.std.proofs.Common.{◌≡◌, ℕ, ◌+◌, ◌≤◌, ◌<◌, ◌^◌, Bool, true, false, List, [], ◌∷◌, ◌++◌, length, take, drop, None, Some, inl, inr, refl, sym, ◌∙◌, ap, subst, arith, append_assoc, append-nil, length-append}
use Rattle.std.specs.Prelude.{⊤, Option}
use Rattle.std.specs.Io.KnownBytes.{prepend_known, append_known}
use Rattle.std.proofs.lemmas.List.{take-append-le, take_all}
use Rattle.racf_outside.specs.Reader.{Reader, at_start}
use Rattle.racf_outside.specs.Causes.{Rose}
use Rattle.racf_outside.specs.Next.{TakesEnd}
use Rattle.racf_outside.proofs.Bytes.{prepend-append, prepend-nil}
use Rattle.statements.specs.declared.status.Status.{Status}
use Rattle.statements.specs.declared.status.Status.TheVariants.{Done, Refusals, Usage, ReadFault, WriteFault, DiskFault, NotFormatted, Damaged, NoMemory, InputTooLong}
use Rattle.statements.specs.Status.{code_of}
use Rattle.statements.specs.Runs.{Input, Machine, after, output, BeginsWith, Ran, Wrote, WroteAll, WroteToReadFault, WroteToWriteFault, WroteFailing, HasFailed, whole_status, status_of}
use Rattle.statements.specs.Gathering.{Settles, Acknowledges, IsCutShort}
use Rattle.statements.specs.NextStatement.{IsWalked, IsLast, TakesStatements, TakesFront, TakesTooMuch}
use Rattle.statements.specs.Stopping.{unless_failed}
use Rattle.statements.proofs.Folds.{after-append, output-append, append_known-append, append_known-nil}
use Rattle.statements.proofs.CutLaws.{IsFrontOf, front_of}

-- The reader has given the items `done`, the machine stands at s, and the sink, which held `before`, holds `now`: the
-- text of the items `told`. That of those that wait is gathered. At most `slack` commands were accepted among these, and
-- only by the last of them.
pub record Walk {S I : Type 0} (m : Machine S I) (source : Option (List ℕ)) (reader : Reader) (slack : ℕ) (s : S) (before now : Option (List ℕ)) (gathered : List ℕ) : Type 0 where
  pub read : List ℕ
  pub done : List I
  pub given : source ≡ prepend_known read reader.unread
  pub counted : reader.passed ≡ length read
  pub goes_on : reader.ended ≡ false → IsWalked m.input read done
  pub last : reader.ended ≡ true → IsLast m.input read done reader.unread
  pub state : s ≡ after m done m.start
  pub told : List I
  pub waiting : List I
  pub parts : done ≡ told ++ waiting
  pub gained : now ≡ append_known before (output m told m.start)
  pub whole : gathered ≡ output m waiting (after m told m.start)
  pub few : m.accepted s ≤ m.accepted (after m told m.start) + slack
  pub alone : (front : List I) (final : I) → waiting ≡ front ++ final ∷ [] → m.accepted (after m (told ++ front) m.start) ≤ m.accepted (after m told m.start)

-- no list ends with an item and is empty
no_last : {I : Type 0} (front : List I) (final : I) → [] ≡ front ++ final ∷ [] → ⊥
no_last [] final h = cc
no_last (i ∷ front) final h = cc

-- lists that end with one item more and are the same, are the same without it
last_same : {I : Type 0} (xs ys : List I) (x y : I) → xs ++ x ∷ [] ≡ ys ++ y ∷ [] → xs ≡ ys
last_same [] [] x y h = refl
last_same [] (j ∷ ys) x y h = absurd (no_last ys y (ap (drop 1) h))
last_same (i ∷ xs) [] x y h = absurd (no_last xs x (sym (ap (drop 1) h)))
last_same (i ∷ xs) (j ∷ ys) x y h = let rest = last_same xs ys x y (ap (drop 1) h) in cc

-- no item, or one
abbrev pub IsOneAtMost : {I : Type 0} → List I → Type 0
IsOneAtMost [] = ⊤
IsOneAtMost (i ∷ []) = ⊤
IsOneAtMost (i ∷ j ∷ items) = ⊥

pub Walk-none : {S I : Type 0} (m : Machine S I) (source before : Option (List ℕ)) (faults : ℕ) → Walk m source (at_start source faults) 0 m.start before before []
Walk-none m source before faults =
    record {
      read = [];
      done = [];
      given = sym (prepend-nil source);
      counted = refl;
      goes_on = λ h. record { whole = λ more. refl; all = λ more. refl };
      last = λ h. cc;
      state = refl;
      told = [];
      waiting = [];
      parts = refl;
      gained = sym (append_known-nil before);
      whole = refl;
      few = omega arith;
      alone = λ front final h. absurd (no_last front final h);
    }

-- where no command was accepted among those that wait, the next item is the only one that may be
alone_with : {S I : Type 0} (m : Machine S I) (told waiting items : List I) → IsOneAtMost items
    → ((front : List I) (final : I) → waiting ≡ front ++ final ∷ [] → m.accepted (after m (told ++ front) m.start) ≤ m.accepted (after m told m.start))
    → m.accepted (after m (told ++ waiting) m.start) ≤ m.accepted (after m told m.start)
    → (front : List I) (final : I) → waiting ++ items ≡ front ++ final ∷ [] → m.accepted (after m (told ++ front) m.start) ≤ m.accepted (after m told m.start)
alone_with m told waiting [] one alone none front final h = alone front final (sym (append-nil waiting) ∙ h)
alone_with m told waiting (i ∷ []) one alone none front final h =
    subst (λ is. m.accepted (after m (told ++ is) m.start) ≤ m.accepted (after m told m.start)) (last_same waiting front i final h) none
alone_with m told waiting (i ∷ j ∷ items) one alone none front final h = absurd one

-- the items go on behind those that were done
IsWalked-more : {I : Type 0} (input : Input I) (read bytes : List ℕ) (done items : List I) → IsWalked input read done → IsWalked input bytes items → IsWalked input (read ++ bytes) (done ++ items)
IsWalked-more input read bytes done items w v =
    record {
      whole = λ more. ap input.whole_items (append_assoc read bytes more) ∙ w.whole (bytes ++ more) ∙ ap (λ is. done ++ is) (v.whole more) ∙ sym (append_assoc done items (input.whole_items more));
      all = λ more. ap input.items (append_assoc read bytes more) ∙ w.all (bytes ++ more) ∙ ap (λ is. done ++ is) (v.all more) ∙ sym (append_assoc done items (input.items more));
    }

IsWalked-last : {I : Type 0} (input : Input I) (read bytes : List ℕ) (done items : List I) (unread : Option (List ℕ)) → IsWalked input read done → IsLast input bytes items unread → IsLast input (read ++ bytes) (done ++ items) unread
IsWalked-last input read bytes done items unread w v =
    record { all = w.all bytes ∙ ap (λ is. done ++ is) v.all; at_end = v.at_end }

-- more bytes were taken, which are one item at most, and it was worked, where no command was accepted among those that wait
pub Walk-items : {S I : Type 0} (m : Machine S I) (items : List I) (bytes : List ℕ) (source : Option (List ℕ)) (old new : Reader) (next : ℕ) (s t : S) (before now : Option (List ℕ)) (gathered more : List ℕ) → Walk m source old 0 s before now gathered → TakesStatements m.input items bytes old new → IsOneAtMost items → t ≡ after m items s → more ≡ gathered ++ output m items s → m.accepted t ≤ m.accepted s + next
    → Walk m source new next t before now more
Walk-items m items bytes source old new next s t before now gathered more w taken one worked gathers fewer =
    let few = w.few in
    let there : m.accepted s ≡ m.accepted (after m (w.told ++ w.waiting) m.start) = ap m.accepted (w.state ∙ ap (λ is. after m is m.start) w.parts) in
    record {
      read = w.read ++ bytes;
      done = w.done ++ items;
      given = w.given ∙ ap (λ known. prepend_known w.read known) taken.taken ∙ sym (prepend-append w.read bytes new.unread);
      counted = taken.counted ∙ ap (λ n. n + length bytes) w.counted ∙ sym (length-append w.read bytes);
      goes_on = λ h. IsWalked-more m.input w.read bytes w.done items (w.goes_on taken.begun) (taken.goes_on h);
      last = λ h. IsWalked-last m.input w.read bytes w.done items new.unread (w.goes_on taken.begun) (taken.last h);
      state = worked ∙ ap (λ x. after m items x) w.state ∙ sym (after-append m w.done items m.start);
      told = w.told;
      waiting = w.waiting ++ items;
      parts = ap (λ is. is ++ items) w.parts ∙ append_assoc w.told w.waiting items;
      gained = w.gained;
      whole =
          gathers
          ∙ ap (λ text. text ++ output m items s) w.whole
          ∙ ap (λ x. output m w.waiting (after m w.told m.start) ++ output m items x) (w.state ∙ ap (λ is. after m is m.start) w.parts ∙ after-append m w.told w.waiting m.start)
          ∙ sym (output-append m w.waiting items (after m w.told m.start));
      few = omega (arith, few, fewer);
      alone = alone_with m w.told w.waiting items one w.alone (omega (arith, few, there));
    }

-- once all that is gathered was written, the sink has the whole output
written_all : {S I : Type 0} (m : Machine S I) (source : Option (List ℕ)) (reader : Reader) (slack : ℕ) (s : S) (before now then : Option (List ℕ)) (gathered : List ℕ) → (w : Walk m source reader slack s before now gathered) → then ≡ append_known now gathered → then ≡ append_known before (output m w.done m.start)
written_all m source reader slack s before now then gathered w wrote =
    wrote
    ∙ ap (λ known. append_known known gathered) w.gained
    ∙ sym (append_known-append before (output m w.told m.start) gathered)
    ∙ ap (λ text. append_known before (output m w.told m.start ++ text)) w.whole
    ∙ ap (append_known before) (sym (output-append m w.told w.waiting m.start))
    ∙ ap (λ is. append_known before (output m is m.start)) (sym w.parts)

-- all that is gathered was written
pub Walk-written : {S I : Type 0} (m : Machine S I) (source : Option (List ℕ)) (reader : Reader) (slack next : ℕ) (s : S) (before now then : Option (List ℕ)) (gathered rest : List ℕ) → Walk m source reader slack s before now gathered → rest ≡ [] → then ≡ append_known now gathered → Walk m source reader next s before then rest
Walk-written m source reader slack next s before now then gathered rest w none wrote =
    record {
      read = w.read;
      done = w.done;
      given = w.given;
      counted = w.counted;
      goes_on = w.goes_on;
      last = w.last;
      state = w.state;
      told = w.done;
      waiting = [];
      parts = sym (append-nil w.done);
      gained = written_all m source reader slack s before now then gathered w wrote;
      whole = none;
      few = let same : m.accepted s ≡ m.accepted (after m w.done m.start) = ap m.accepted w.state in omega (arith, same);
      alone = λ front final h. absurd (no_last front final h);
    }

-- what is gathered was written, or is gathered still
pub Walk-settles : {S I : Type 0} (m : Machine S I) (source : Option (List ℕ)) (reader : Reader) (slack : ℕ) (s : S) (before now then : Option (List ℕ)) (gathered rest : List ℕ) → Walk m source reader slack s before now gathered → Settles gathered rest now then → Walk m source reader slack s before then rest
Walk-settles m source reader slack s before now then gathered rest w (inl kept) =
    record {
      read = w.read;
      done = w.done;
      given = w.given;
      counted = w.counted;
      goes_on = w.goes_on;
      last = w.last;
      state = w.state;
      told = w.told;
      waiting = w.waiting;
      parts = w.parts;
      gained = kept.1 ∙ w.gained;
      whole = kept.0 ∙ w.whole;
      few = w.few;
      alone = w.alone;
    }
Walk-settles m source reader slack s before now then gathered rest w (inr wrote) =
    Walk-written m source reader slack slack s before now then gathered rest w wrote.0 wrote.1

-- the items that were done are the first ones
begins_walked : {I : Type 0} (input : Input I) (read : List ℕ) (done : List I) (unread : Option (List ℕ)) → IsWalked input read done → BeginsWith input read unread done
begins_walked input read done None w = record { rest = []; is_rest = tt; others = input.items []; in_order = w.all [] }
begins_walked input read done (Some told) w = record { rest = told; is_rest = refl; others = input.items told; in_order = w.all told }

begins_last : {I : Type 0} (input : Input I) (read : List ℕ) (done : List I) (unread : Option (List ℕ)) → IsLast input read done unread → BeginsWith input read unread done
begins_last input read done None v = record { rest = []; is_rest = tt; others = []; in_order = ap input.items (append-nil read) ∙ v.all ∙ sym (append-nil done) }
begins_last input read done (Some told) v = record { rest = []; is_rest = v.at_end; others = []; in_order = ap input.items (append-nil read) ∙ v.all ∙ sym (append-nil done) }

pub Walk-first : {S I : Type 0} (m : Machine S I) (source : Option (List ℕ)) (reader : Reader) (slack : ℕ) (s : S) (before now : Option (List ℕ)) (gathered : List ℕ) → (w : Walk m source reader slack s before now gathered) → BeginsWith m.input w.read reader.unread w.done
Walk-first m source reader slack s before now gathered w = by_end reader.ended refl
  where
    by_end : (ended : Bool) → reader.ended ≡ ended → BeginsWith m.input w.read reader.unread w.done
    by_end false h = begins_walked m.input w.read w.done reader.unread (w.goes_on h)
    by_end true h = begins_last m.input w.read w.done reader.unread (w.last h)

-- likewise where more bytes were taken, which are these items
pub given_items : {S I : Type 0} (m : Machine S I) (items : List I) (bytes : List ℕ) (source : Option (List ℕ)) (old new : Reader) (slack : ℕ) (s : S) (before now : Option (List ℕ)) (gathered : List ℕ) → (w : Walk m source old slack s before now gathered) → TakesStatements m.input items bytes old new
    → source ≡ prepend_known (w.read ++ bytes) new.unread
given_items m items bytes source old new slack s before now gathered w taken =
    w.given ∙ ap (λ known. prepend_known w.read known) taken.taken ∙ sym (prepend-append w.read bytes new.unread)

pub first_items : {S I : Type 0} (m : Machine S I) (items : List I) (bytes : List ℕ) (source : Option (List ℕ)) (old new : Reader) (slack : ℕ) (s : S) (before now : Option (List ℕ)) (gathered : List ℕ) → (w : Walk m source old slack s before now gathered) → TakesStatements m.input items bytes old new
    → BeginsWith m.input (w.read ++ bytes) new.unread (w.done ++ items)
first_items m items bytes source old new slack s before now gathered w taken = by_end new.ended refl
  where
    by_end : (ended : Bool) → new.ended ≡ ended → BeginsWith m.input (w.read ++ bytes) new.unread (w.done ++ items)
    by_end false h = begins_walked m.input (w.read ++ bytes) (w.done ++ items) new.unread (IsWalked-more m.input w.read bytes w.done items (w.goes_on taken.begun) (taken.goes_on h))
    by_end true h = begins_last m.input (w.read ++ bytes) (w.done ++ items) new.unread (IsWalked-last m.input w.read bytes w.done items new.unread (w.goes_on taken.begun) (taken.last h))

-- at the input's end the items are those that were done
all_done : {S I : Type 0} (m : Machine S I) (source : Option (List ℕ)) (reader : Reader) (slack : ℕ) (s : S) (before now : Option (List ℕ)) (gathered : List ℕ) → (w : Walk m source reader slack s before now gathered) → m.input.items [] ≡ [] → m.input.items w.read ≡ w.done
all_done m source reader slack s before now gathered w empty = by_end reader.ended refl
  where
    by_end : (ended : Bool) → reader.ended ≡ ended → m.input.items w.read ≡ w.done
    by_end false h = ap m.input.items (sym (append-nil w.read)) ∙ (w.goes_on h).all [] ∙ ap (λ is. w.done ++ is) empty ∙ append-nil w.done
    by_end true h = (w.last h).all

-- and so they are where bytes follow them in which no item has ended
begins_further : {I : Type 0} (input : Input I) (read bytes : List ℕ) (done : List I) (unread : Option (List ℕ)) → IsWalked input read done → BeginsWith input (read ++ bytes) unread done
begins_further input read bytes done None w =
    record { rest = []; is_rest = tt; others = input.items (bytes ++ []); in_order = ap input.items (append_assoc read bytes []) ∙ w.all (bytes ++ []) }
begins_further input read bytes done (Some told) w =
    record { rest = told; is_rest = refl; others = input.items (bytes ++ told); in_order = ap input.items (append_assoc read bytes told) ∙ w.all (bytes ++ told) }

front_taken : (xs ys : List ℕ) (n : ℕ) → length xs ≡ n → take n (xs ++ ys) ≡ xs
front_taken xs ys n h = let within : n ≤ length xs = omega arith in take-append-le n xs ys within ∙ take_all n xs (omega arith)

-- ---- what a run wrote, by weaker causes
wrote-causes : {S I : Type 0} (m : Machine S I) (R R2 W W2 : Type 0) (status : Status) (read : List ℕ) (more left : Option (List ℕ)) (worked : List I) (written : List ℕ) → (R → R2) → (W → W2) → Wrote m R W status read more left worked written → Wrote m R2 W2 status read more left worked written
wrote-causes m R R2 W W2 status read more left worked written r w wrote = by status wrote
  where
    reads : WroteToReadFault m R read more left worked written → WroteToReadFault m R2 read more left worked written
    reads h = record { cause = r h.cause; kept = h.kept; all = h.all; whole = h.whole }

    writes : WroteToWriteFault m W worked written → WroteToWriteFault m W2 worked written
    writes h = record { cause = w h.cause; done = h.done; last = h.last; others = h.others; count = h.count; parts = h.parts; front = h.front; few = h.few; alone = h.alone }

    fails : WroteFailing m R W read more left worked written → WroteFailing m R2 W2 read more left worked written
    fails (inl h) = inl h
    fails (inr (inl h)) = inr (inl (reads h))
    fails (inr (inr h)) = inr (inr (writes h))

    by : (status : Status) → Wrote m R W status read more left worked written → Wrote m R2 W2 status read more left worked written
    by Done h = h
    by Refusals h = h
    by Usage h = absurd h
    by ReadFault h = (h.0, reads h.1)
    by WriteFault h = (h.0, writes h.1)
    by DiskFault h = (h.0, fails h.1)
    by NotFormatted h = absurd h
    by (Damaged place) h = absurd h
    by NoMemory h = h
    by InputTooLong h = h

pub Ran-causes : {S I : Type 0} (m : Machine S I) (P : S → Type 0) (R R2 W W2 : Type 0) (status : Status) (source left before now : Option (List ℕ)) → (R → R2) → (W → W2) → Ran m P R W status source left before now → Ran m P R2 W2 status source left before now
Ran-causes m P R R2 W W2 status source left before now r w ran =
    record {
      read = ran.read;
      more = ran.more;
      worked = ran.worked;
      written = ran.written;
      given = ran.given;
      gained = ran.gained;
      begins = ran.begins;
      stands = ran.stands;
      wrote = wrote-causes m R R2 W W2 status ran.read ran.more left ran.worked ran.written r w ran.wrote;
    }

-- ---- a run in which a disk failed a command ends with the status of that, or a greater one
whole_failed : (failed refused : Bool) (status : Status) → status ≡ whole_status failed refused → failed ≡ true → 20 ≤ code_of status
whole_failed true refused status is failed = subst (λ (x : Status). 20 ≤ code_of x) (sym is) (omega arith)
whole_failed false refused status is failed = cc

pub ran_failed : {S I : Type 0} (m : Machine S I) (P : S → Type 0) (R W : Type 0) (status : Status) (source left before now : Option (List ℕ)) → (r : Ran m P R W status source left before now) → HasFailed m true r.worked → 20 ≤ code_of status
ran_failed m P R W status source left before now r failed = by status r.wrote
  where
    not_failed : HasFailed m false r.worked → true ≡ false
    not_failed none = sym failed ∙ none

    by : (x : Status) → Wrote m R W x r.read r.more left r.worked r.written → 20 ≤ code_of x
    by Done h = whole_failed (m.has_failed (after m r.worked m.start)) (m.has_refused (after m r.worked m.start)) Done h.is_status failed
    by Refusals h = whole_failed (m.has_failed (after m r.worked m.start)) (m.has_refused (after m r.worked m.start)) Refusals h.is_status failed
    by Usage h = absurd h
    by ReadFault h = let no = not_failed h.0 in cc
    by WriteFault h = let no = not_failed h.0 in cc
    by DiskFault h = omega arith
    by NotFormatted h = absurd h
    by (Damaged place) h = absurd h
    by NoMemory h = omega arith
    by InputTooLong h = omega arith

-- ---- commands that were accepted
-- no statement takes one back
abbrev pub Grows : {S I : Type 0} → Machine S I → Type 0
Grows {S} {I} m = (i : I) (s : S) → m.accepted s ≤ m.accepted (m.step i s)

all_grow : {S I : Type 0} (m : Machine S I) → Grows m → (items : List I) (s : S) → m.accepted s ≤ m.accepted (after m items s)
all_grow m grows [] s = omega arith
all_grow m grows (i ∷ items) s = let first = grows i s in let rest = all_grow m grows items (m.step i s) in omega (arith, first, rest)

-- ---- the stops: a machine that walked so far, stands at s, and knows P of that; R and W are why a read or a write may
-- fail
module _ {S I : Type 0} (m : Machine S I) (P : S → Type 0) (R W : Type 0) (source left : Option (List ℕ)) (reader : Reader) (slack : ℕ) (s : S) (before now then : Option (List ℕ)) (gathered : List ℕ) (w : Walk m source reader slack s before now gathered) (p : P s) where
  stands_there : P (after m w.done m.start)
  stands_there = subst P w.state p

  failed_there : (failed : Bool) → m.has_failed s ≡ failed → HasFailed m failed w.done
  failed_there failed is = ap m.has_failed (sym w.state) ∙ is

  -- the input was read to its end
  pub walked_all : (new : Reader) → then ≡ append_known now gathered → m.input.items [] ≡ [] → TakesEnd reader new → new.passed ≤ 2 ^ 28 → Ran m P R W (status_of m s) source left before then
  walked_all new wrote empty end limit =
      record {
        read = w.read;
        more = new.unread;
        worked = w.done;
        written = output m w.done m.start;
        given = w.given ∙ ap (λ known. prepend_known w.read known) (sym end.kept);
        gained = written_all m source reader slack s before now then gathered w wrote;
        begins = subst (λ known. BeginsWith m.input w.read known w.done) (sym end.kept) (Walk-first m source reader slack s before now gathered w);
        stands = stands_there;
        wrote =
            whole (m.has_failed s) (m.has_refused s) refl
            (record {
              ended = end.at_end;
              fits = omega (arith, end.counted, w.counted);
              all = sym (all_done m source reader slack s before now gathered w empty);
              whole = refl;
              is_status = ap (status_of m) w.state;
            });
      }
    where
      whole : (failed refused : Bool) → m.has_failed s ≡ failed → WroteAll m (whole_status failed refused) w.read new.unread w.done (output m w.done m.start) → Wrote m R W (whole_status failed refused) w.read new.unread left w.done (output m w.done m.start)
      whole true refused is h = (failed_there true is, inl h)
      whole false true is h = h
      whole false false is h = h

  -- a read failed
  pub walked_to_read_fault : (bytes : List ℕ) (new : Reader) → then ≡ append_known now gathered → TakesFront m.input bytes reader new → (Rose reader.faults new.faults → R) → Ran m P R W (unless_failed (m.has_failed s) ReadFault) source new.left before then
  walked_to_read_fault bytes new wrote front why =
      record {
        read = w.read ++ bytes;
        more = new.unread;
        worked = w.done;
        written = output m w.done m.start;
        given = w.given ∙ ap (λ known. prepend_known w.read known) front.taken ∙ sym (prepend-append w.read bytes new.unread);
        gained = written_all m source reader slack s before now then gathered w wrote;
        begins = begins_further m.input w.read bytes w.done new.unread (w.goes_on front.begun);
        stands = stands_there;
        wrote =
            by (m.has_failed s) refl
            (record {
              cause = why front.cause;
              kept = sym front.none_held;
              all = sym ((w.goes_on front.begun).whole bytes ∙ ap (λ is. w.done ++ is) front.none ∙ append-nil w.done);
              whole = refl;
            });
      }
    where
      by : (failed : Bool) → m.has_failed s ≡ failed → WroteToReadFault m R (w.read ++ bytes) new.unread new.left w.done (output m w.done m.start) → Wrote m R W (unless_failed failed ReadFault) (w.read ++ bytes) new.unread new.left w.done (output m w.done m.start)
      by true is h = (failed_there true is, inr (inl h))
      by false is h = (failed_there false is, h)

  -- a line doesn't end within the longest input
  pub walked_too_long : (bytes : List ℕ) (next : ℕ) (new : Reader) → then ≡ append_known now gathered → TakesTooMuch m.input bytes next reader new → Ran m P R W InputTooLong source left before then
  walked_too_long bytes next new wrote much =
      let limit : length (w.read ++ bytes) ≡ 2 ^ 28 = length-append w.read bytes ∙ omega (arith, w.counted, much.limit) in
      let front : take (2 ^ 28) ((w.read ++ bytes) ++ next ∷ []) ≡ w.read ++ bytes = front_taken (w.read ++ bytes) (next ∷ []) (2 ^ 28) limit in
      record {
        read = (w.read ++ bytes) ++ next ∷ [];
        more = new.unread;
        worked = w.done;
        written = output m w.done m.start;
        given =
            w.given
            ∙ ap (λ known. prepend_known w.read known) much.taken
            ∙ sym (prepend-append w.read (bytes ++ next ∷ []) new.unread)
            ∙ ap (λ bs. prepend_known bs new.unread) (sym (append_assoc w.read bytes (next ∷ [])));
        gained = written_all m source reader slack s before now then gathered w wrote;
        begins =
            subst (λ bs. BeginsWith m.input bs new.unread w.done) (sym (append_assoc w.read bytes (next ∷ [])))
            (begins_further m.input w.read (bytes ++ next ∷ []) w.done new.unread (w.goes_on much.begun));
        stands = stands_there;
        wrote =
            record {
              too_long = omega (arith, length-append (w.read ++ bytes) (next ∷ []), limit);
              all = sym (ap m.input.whole_items front ∙ (w.goes_on much.begun).whole bytes ∙ ap (λ is. w.done ++ is) much.none ∙ append-nil w.done);
              whole = refl;
            };
      }

  -- memory ran out before the next item
  pub walked_to_item : then ≡ append_known now gathered → Ran m P R W NoMemory source left before then
  walked_to_item wrote =
      record {
        read = w.read;
        more = reader.unread;
        worked = w.done;
        written = output m w.done m.start;
        given = w.given;
        gained = written_all m source reader slack s before now then gathered w wrote;
        begins = Walk-first m source reader slack s before now gathered w;
        stands = stands_there;
        wrote = refl;
      }

  -- a write failed in what is gathered
  pub walked_to_write_fault : Grows m → slack ≤ 1 → W → IsCutShort gathered now then → Ran m P R W (unless_failed (m.has_failed s) WriteFault) source left before then
  walked_to_write_fault grows at_most why cut =
      record {
        read = w.read;
        more = reader.unread;
        worked = w.done;
        written = output m w.told m.start ++ take cut.count gathered;
        given = w.given;
        gained = cut.front ∙ ap (λ known. append_known known (take cut.count gathered)) w.gained ∙ sym (append_known-append before (output m w.told m.start) (take cut.count gathered));
        begins = Walk-first m source reader slack s before now gathered w;
        stands = stands_there;
        wrote = by (m.has_failed s) refl (cut_there (front_of m w.waiting (after m w.told m.start) cut.count (subst (λ (bytes : List ℕ). cut.count < length bytes) w.whole cut.short)));
      }
    where
      -- the items before the one whose text was cut
      cut_there : IsFrontOf m w.waiting (after m w.told m.start) (take cut.count (output m w.waiting (after m w.told m.start))) → WroteToWriteFault m W w.done (output m w.told m.start ++ take cut.count gathered)
      cut_there front =
          let s_told = after m w.told m.start in
          let behind : after m (w.told ++ front.done) m.start ≡ after m front.done s_told = after-append m w.told front.done m.start in
          let few = w.few in
          let grown = all_grow m grows front.done s_told in
          let now_is : m.accepted s ≡ m.accepted (after m w.done m.start) = ap m.accepted w.state in
          let then_is : m.accepted (after m (w.told ++ front.done) m.start) ≡ m.accepted (after m front.done s_told) = ap m.accepted behind in
          record {
            cause = why;
            done = w.told ++ front.done;
            last = front.last;
            others = front.rest;
            count = front.count;
            parts = w.parts ∙ ap (λ is. w.told ++ is) front.split ∙ sym (append_assoc w.told front.done (front.last ∷ front.rest));
            front =
                ap (λ bytes. output m w.told m.start ++ take cut.count bytes) w.whole
                ∙ ap (λ bytes. output m w.told m.start ++ bytes) front.is_front
                ∙ sym (append_assoc (output m w.told m.start) (output m front.done s_told) (take front.count (m.text front.last (after m front.done s_told))))
                ∙ ap (λ bytes. bytes ++ take front.count (m.text front.last (after m front.done s_told))) (sym (output-append m w.told front.done m.start))
                ∙ ap (λ x. output m (w.told ++ front.done) m.start ++ take front.count (m.text front.last x)) (sym behind);
            few = omega (arith, few, grown, now_is, then_is, at_most);
            alone =
                λ worked final h.
                let at = w.alone (front.done ++ worked) final (front.split ∙ ap (λ is. front.done ++ is) h ∙ sym (append_assoc front.done worked (final ∷ []))) in
                let same : m.accepted (after m ((w.told ++ front.done) ++ worked) m.start) ≡ m.accepted (after m (w.told ++ (front.done ++ worked)) m.start) = ap (λ is. m.accepted (after m is m.start)) (append_assoc w.told front.done worked) in
                omega (arith, at, same, grown, then_is);
          }

      by : (failed : Bool) → m.has_failed s ≡ failed → WroteToWriteFault m W w.done (output m w.told m.start ++ take cut.count gathered) → Wrote m R W (unless_failed failed WriteFault) w.read reader.unread left w.done (output m w.told m.start ++ take cut.count gathered)
      by true is h = (failed_there true is, inr (inr h))
      by false is h = (failed_there false is, h)

-- memory ran out before anything was read
pub none_read : {S I : Type 0} (m : Machine S I) (P : S → Type 0) (R W : Type 0) (source left before : Option (List ℕ)) → P m.start → Ran m P R W NoMemory source left before before
none_read m P R W source left before p =
    walked_to_item m P R W source left (at_start source 0) 0 m.start before before before [] (Walk-none m source before 0) p (sym (append_known-nil before))

-- of a reader that has read nothing yet
pub passed_none : (reader : Reader) → reader ≡ at_start reader.left reader.faults → reader.passed ≤ 2 ^ 28
passed_none reader fresh = subst (λ (r : Reader). r.passed ≤ 2 ^ 28) (sym fresh) (omega arith)
