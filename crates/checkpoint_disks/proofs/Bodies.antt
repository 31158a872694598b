-- What a crash leaves while all behind a closed head gate is written.
use Rattle.std.proofs.Common.{ℕ, ◌+◌, ◌<◌, ◌≤◌, ◌≡◌, ◌∙◌, false, not, ◌&&◌, ◌||◌, ltb, List, [], ◌++◌, length, take, drop, get_or, refl, sym, ap, subst, arith, append_assoc, length-append}
use Rattle.std.proofs.lemmas.List.{take_at, drop_all, append-nil, take-take, take-append-le, take-append-drop, length-take}
use Rattle.std.proofs.lemmas.Bool.{lt-ltb}
use Rattle.racf_outside.specs.Crashes.{Leaves}
use Rattle.racf_outside.specs.Moments.{Moment, is_written, durable, written, cut_to, synced}
use Rattle.racf_outside.proofs.Images.{front_stays}
use Rattle.checkpoint_disks.specs.Compacting.{with_head, IsClosed, HoldsClosed, HoldsBody}
use Rattle.checkpoint_disks.proofs.HeadGates.{parts, closed_with, holds_with, not_open}

-- The first nine bytes are these, and none of them is in doubt.
record Fronted (front : List ℕ) (m : Moment) : Type 0 where
  is : take 9 m.bytes ≡ front
  short : 9 ≤ m.shortest
  untouched : (place : ℕ) → place < 9 → is_written m.written place ≡ false

-- what is written behind them, or cut off
fronted_written : (front bytes : List ℕ) (at : ℕ) (m : Moment) → 9 ≤ at → at ≤ length m.bytes → Fronted front m → Fronted front (written at bytes m)
fronted_written front bytes at m behind within f = record {
  is = take-append-le 9 (take at m.bytes) (bytes ++ drop (at + length bytes) m.bytes) (omega (arith, length-take at m.bytes)) ∙ take-take 9 at m.bytes behind ∙ f.is;
  short = f.short;
  untouched = λ place below.
      let before : place < at = omega arith in
      ap (λ b. (not b && ltb place (at + length bytes)) || is_written m.written place) (lt-ltb place at before) ∙ f.untouched place below;
}

fronted_cut : (front : List ℕ) (end : ℕ) (m : Moment) → 9 ≤ end → Fronted front m → Fronted front (cut_to end m)
fronted_cut front end m behind f = record {
  is = take-take 9 end m.bytes behind ∙ f.is;
  short = omega (arith, f.short);
  untouched = f.untouched;
}

fronted_synced : (front : List ℕ) (m : Moment) → length front ≡ 9 → Fronted front m → Fronted front (synced m)
fronted_synced front m nine f = record {
  is = f.is;
  short = omega (arith, ap length f.is, length-take 9 m.bytes);
  untouched = λ place below. refl;
}

-- every crash leaves them
fronted_leaves : (gate : ℕ) (m : Moment) → (gate ≡ 1 → ⊥) → Fronted (with_head gate []) m → Leaves IsClosed m
fronted_leaves gate m closed f = record {
  each = λ image i.
      let split : m.bytes ≡ with_head gate [] ++ drop 9 m.bytes = sym (take-append-drop 9 m.bytes) ∙ ap (λ (l : List ℕ). l ++ drop 9 m.bytes) f.is in
      let stays : image ≡ with_head gate [] ++ drop 9 image = front_stays m (with_head gate []) (drop 9 m.bytes) image split f.short f.untouched i in
      subst IsClosed (sym stays) (closed_with gate (drop 9 image) closed);
}

-- a write behind a front of known bytes
written_behind : (at : ℕ) (front rest bytes : List ℕ) (m : Moment) → m.bytes ≡ front ++ rest → length front ≡ at → (written at bytes m).bytes ≡ (front ++ bytes) ++ drop (at + length bytes) m.bytes
written_behind at front rest bytes m is size =
    ap (λ (l : List ℕ). l ++ (bytes ++ drop (at + length bytes) m.bytes)) (ap (take at) is ∙ take_at front rest at size)
    ∙ sym (append_assoc front bytes (drop (at + length bytes) m.bytes))

pub record Writes (head rest : List ℕ) (m : Moment) : Type 0 where
  pub first : Leaves IsClosed m
  pub cut : Leaves IsClosed (cut_to 9 m)
  pub behind : 9 ≤ length (cut_to 9 m).bytes
  pub fields : Leaves IsClosed (written 9 head (cut_to 9 m))
  pub within : 33 ≤ length (written 9 head (cut_to 9 m)).bytes
  pub whole : Leaves IsClosed (written 33 rest (written 9 head (cut_to 9 m)))
  pub kept : Leaves IsClosed (synced (written 33 rest (written 9 head (cut_to 9 m))))
  pub holds : HoldsBody (head ++ rest) (synced (written 33 rest (written 9 head (cut_to 9 m))))

module _ (gate : ℕ) (body head rest : List ℕ) (closed : gate ≡ 1 → ⊥) (size : length head ≡ 24) where
  abbrev front : List ℕ
  front = with_head gate []

  abbrev resting : Moment
  resting = durable (with_head gate body)

  abbrev cut : Moment
  cut = cut_to 9 resting

  abbrev begun : Moment
  begun = written 9 head cut

  abbrev put : Moment
  put = written 33 rest begun

  begun_bytes : begun.bytes ≡ front ++ head
  begun_bytes =
      written_behind 9 front [] head cut refl refl
      ∙ ap (λ (l : List ℕ). (front ++ head) ++ l) (drop_all (9 + length head) front (omega arith))
      ∙ append-nil (front ++ head)

  front_size : length (front ++ head) ≡ 33
  front_size = omega (arith, length-append front head)

  begun_size : length begun.bytes ≡ 33
  begun_size = ap length begun_bytes ∙ front_size

  put_bytes : put.bytes ≡ with_head gate (head ++ rest)
  put_bytes =
      written_behind 33 (front ++ head) [] rest begun (begun_bytes ∙ sym (append-nil (front ++ head))) front_size
      ∙ ap (λ (l : List ℕ). ((front ++ head) ++ rest) ++ l) (drop_all (33 + length rest) begun.bytes (omega (arith, begun_size)))
      ∙ append-nil ((front ++ head) ++ rest)
      ∙ append_assoc front head rest

  f_resting : Fronted front resting
  f_resting = record { is = refl; short = omega arith; untouched = λ place below. refl }

  f_cut : Fronted front cut
  f_cut = fronted_cut front 9 resting (omega arith) f_resting

  f_begun : Fronted front begun
  f_begun = fronted_written front head 9 cut (omega arith) (omega arith) f_cut

  f_put : Fronted front put
  f_put = fronted_written front rest 33 begun (omega arith) (omega (arith, begun_size)) f_begun

  writes_here : Writes head rest resting
  writes_here = record {
    first = fronted_leaves gate resting closed f_resting;
    cut = fronted_leaves gate cut closed f_cut;
    behind = omega arith;
    fields = fronted_leaves gate begun closed f_begun;
    within = omega (arith, begun_size);
    whole = fronted_leaves gate put closed f_put;
    kept = fronted_leaves gate (synced put) closed (fronted_synced front put refl f_put);
    holds = subst (λ (l : List ℕ). HoldsBody (head ++ rest) (durable l)) (sym put_bytes) (record { held = holds_with gate (head ++ rest) closed; is = refl });
  }

pub writes : (head rest : List ℕ) (m : Moment) → length head ≡ 24 → HoldsClosed m → Writes head rest m
writes head rest m size holds =
    subst (Writes head rest) (sym (holds.idle.durable ∙ ap durable (parts m.bytes holds.idle.formatted holds.gate)))
    (writes_here (get_or m.bytes 8 0) (drop 9 m.bytes) head rest (not_open m.bytes holds.closed) size)
