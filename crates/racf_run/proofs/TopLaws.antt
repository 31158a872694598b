-- What the top call says of the shelf and of the disks, by what its parts say.
use Rattle.std.proofs.Common.{◌≡◌, ◌<◌, ◌≤◌, ℕ, Bool, true, false, List, [], inl, inr, refl, sym, ◌∙◌, ap, subst, arith}
use Rattle.std.specs.Prelude.{Option, Result}
use Rattle.racf_outside.specs.Causes.{Rose, TakesOver}
use Rattle.racf_outside.specs.declared.streams.Failed.{Failed}
use Rattle.racf_outside.specs.Disk.{History}
use Rattle.racf_outside.specs.Shelf.{told, SameOthers}
use Rattle.racf_checkpoint.specs.Stored.{StoreOn}
use Rattle.desk_rules.specs.Durable.{LeavesIt}
use Rattle.desk_rules.specs.Made.{DeskOn, number_at}
use Rattle.desk_rules.specs.Position.{Position}
use Rattle.statements.specs.declared.issuer.Issuing.{Issuing}
use Rattle.statements.specs.declared.status.Status.{Status}
use Rattle.racf_stream.specs.Durable.{StaysAlong, LeavesInDoubt, most_left, most_left_of}
use Rattle.racf_run.specs.Racf.{Files, RanTo, RunsOnShelf, EndsAt}
use Rattle.statements.specs.Runs.{Ran}
use Rattle.racf_stream.specs.Script.{stream, fault_at, fault_of, StandsAt}
use Rattle.racf_stream.specs.Stream.{State, number_of, new_stream}
use Rattle.racf_stream.proofs.ScriptLaws.{stands_new, position_new}
use Rattle.statements.proofs.RunLaws.{Ran-weaker}
use Rattle.statements.proofs.Walk.{Ran-causes}
use Rattle.racf_stream.proofs.LeftLaws.{left_at_least}
use Rattle.racf_stream.proofs.Moments.{StaysAlong-none}

-- the desk at the start
not_halted : (issuing : Issuing) (base : Position) → (new_stream issuing base).halted ≡ false
unfolding new_stream
not_halted issuing base = refl

pub ends_new : {D : Type 0} (tells : D → Option History) (issuing : Issuing) (input : Option (List ℕ)) (desk : DeskOn D) → desk.halted ≡ false → desk.committed ≡ false → (desk.halted ≡ false → LeavesIt tells desk.store desk.position)
    → EndsAt tells issuing desk.position input desk.store desk (new_stream issuing desk.position)
ends_new tells issuing input desk running settled leaves =
    let new = new_stream issuing desk.position in
    let halts = not_halted issuing desk.position in
    let at : desk.position ≡ new.position = sym (position_new issuing desk.position new refl) in
    record {
      stands = stands_new issuing desk running settled;
      moments = StaysAlong-none tells issuing desk.position input (most_left_of new) desk.store
          (subst (λ (p : Position). p.image.generation ≤ most_left_of new) (sym at) (left_at_least new.halted (number_of new))) (leaves running);
      leaves = λ h. subst (LeavesIt tells desk.store) (sym (position_new issuing desk.position (new_stream issuing desk.position) refl)) (leaves running);
      in_doubt = λ h. absurd (cc (h, halts));
    }

-- and behind a run
ends_at : {D : Type 0} (tells : D → Option History) (issuing : Issuing) (base : Position) (input : Option (List ℕ)) (start : StoreOn D) (desk : DeskOn D) → (desk.halted ≡ false → LeavesIt tells desk.store desk.position)
    → (desk.halted ≡ true → LeavesInDoubt tells issuing base input desk.store desk.position)
    → StaysAlong tells issuing base input (most_left desk.halted (number_at desk.position)) start desk.store
    → (s : State) → StandsAt desk s → (fault_of desk ≡ fault_at s.halted (number_of s)) × EndsAt tells issuing base input start desk s
ends_at tells issuing base input start desk leaves in_doubt along s stands = (
  ap (λ h. fault_at h desk.position.image.generation) stands.halted ∙ ap (λ (p : Position). fault_at s.halted p.image.generation) stands.position,
  record {
    stands = stands;
    moments =
        subst (λ h. StaysAlong tells issuing base input (most_left h (number_of s)) start desk.store) stands.halted
        (subst (λ (p : Position). StaysAlong tells issuing base input (most_left desk.halted (number_at p)) start desk.store) stands.position along);
    leaves = λ h. subst (LeavesIt tells desk.store) stands.position (leaves (stands.halted ∙ h));
    in_doubt = λ h. subst (LeavesInDoubt tells issuing base input desk.store) stands.position (in_doubt (stands.halted ∙ h));
  },
)

pub ran_to : {D : Type 0} (tells : D → Option History) (issuing : Issuing) (start : StoreOn D) (desk : DeskOn D) (base : Position) (R R2 W W2 : Type 0) (told_any : Bool) (status : Status) (source input left before now : Option (List ℕ)) (name : List ℕ) (old new : List ℕ → Option (List ℕ))
    → Ran (stream (fault_of desk) issuing base) (StandsAt desk) R W status source left before now → (desk.halted ≡ false → LeavesIt tells desk.store desk.position)
    → (desk.halted ≡ true → LeavesInDoubt tells issuing base source desk.store desk.position)
    → StaysAlong tells issuing base source (most_left desk.halted (number_at desk.position)) start desk.store → (R → R2) → (W → W2)
    → source ≡ input → before ≡ told told_any [] → new name ≡ now → SameOthers name old new → RanTo (EndsAt tells issuing base input start desk) R2 W2 issuing base told_any status input name old new
ran_to tells issuing start desk base R R2 W W2 told_any status source input left before now name old new ran leaves in_doubt along reads writes is_source is_before is_now others =
    let P : State → Type 0 = λ s. (fault_of desk ≡ fault_at s.halted (number_of s)) × EndsAt tells issuing base input start desk s in
    let doubt : desk.halted ≡ true → LeavesInDoubt tells issuing base input desk.store desk.position =
    subst (λ (o : Option (List ℕ)). desk.halted ≡ true → LeavesInDoubt tells issuing base o desk.store desk.position) is_source in_doubt in
    let stays = subst (λ (o : Option (List ℕ)). StaysAlong tells issuing base o (most_left desk.halted (number_at desk.position)) start desk.store) is_source along in
    record {
      fault = fault_of desk;
      left = left;
      ran =
          subst (λ (o : Option (List ℕ)). Ran (stream (fault_of desk) issuing base) P R2 W2 status input left (told told_any []) o) (sym is_now)
          (subst (λ (b : Option (List ℕ)). Ran (stream (fault_of desk) issuing base) P R2 W2 status input left b now) is_before
          (subst (λ (s : Option (List ℕ)). Ran (stream (fault_of desk) issuing base) P R2 W2 status s left before now) is_source
          (Ran-causes (stream (fault_of desk) issuing base) P R R2 W W2 status source left before now reads writes
          (Ran-weaker (stream (fault_of desk) issuing base) (StandsAt desk) P R W status source left before now (ends_at tells issuing base input start desk leaves doubt stays) ran))));
      others = others;
    }

-- What takes a thing back that had counted no fault counts each that it has counted since.
pub rose_taken : (new now before after : ℕ) → new ≡ 0 → TakesOver now before after → Rose new now → Rose before after
rose_taken new now before after none takes rose = takes.faulty (some none rose)
  where
    some : new ≡ 0 → Rose new now → 0 < now
    some e r = grind arith

-- ---- a weaker property of what stands behind it
RanTo-weaker : (P Q : State → Type 0) (R W : Type 0) (issuing : Issuing) (base : Position) (tells : Bool) (status : Status) (input : Option (List ℕ)) (name : List ℕ) (old new : List ℕ → Option (List ℕ)) → ((s : State) → P s → Q s) → RanTo P R W issuing base tells status input name old new → RanTo Q R W issuing base tells status input name old new
RanTo-weaker P Q R W issuing base tells status input name old new weaker r =
    record {
      fault = r.fault;
      left = r.left;
      ran =
          Ran-weaker (stream r.fault issuing base) (λ s. (r.fault ≡ fault_at s.halted (number_of s)) × P s) (λ s. (r.fault ≡ fault_at s.halted (number_of s)) × Q s) R W status input r.left (told tells []) (new name)
          (λ s p. (p.0, weaker s p.1)) r.ran;
      others = r.others;
    }

module _ {S I O : Type 0} (source : S → List ℕ → Result I Failed → S → Type 0) (sink : S → List ℕ → Result O Failed → S → Type 0) (take_back : S → List ℕ → I → S → Type 0) (give_back : S → List ℕ → O → S → Type 0) (tells : Bool) (output : S → List ℕ → Option (List ℕ)) (R W : Type 0) (P Q : State → Type 0) (base : Position) (weaker : (s : State) → P s → Q s) where
  pub RunsOnShelf-weaker : (status : Status) (bytes : Option (List ℕ)) (files : Files) (old new : S) → RunsOnShelf source sink take_back give_back tells output R W P base status bytes files old new → RunsOnShelf source sink take_back give_back tells output R W Q base status bytes files old new
  RunsOnShelf-weaker status bytes files old new (inl r) =
      inl (record { is_status = r.is_status; stands = weaker (new_stream files.issuing base) r.stands; failed = r.failed; input_asked = r.input_asked; outputs = r.outputs })
  RunsOnShelf-weaker status bytes files old new (inr (inl r)) =
      inr (inl (record {
        is_status = r.is_status;
        stands = weaker (new_stream files.issuing base) r.stands;
        opened = r.opened;
        failed = r.failed;
        first = r.first;
        second = r.second;
        input_asked = r.input_asked;
        output_asked = r.output_asked;
        input_back = r.input_back;
        others = r.others;
      }))
  RunsOnShelf-weaker status bytes files old new (inr (inr r)) =
      inr (inr (record {
        opened = r.opened;
        opened_output = r.opened_output;
        first = r.first;
        second = r.second;
        input_asked = r.input_asked;
        output_asked = r.output_asked;
        third = r.third;
        worked = r.worked;
        worked_output = r.worked_output;
        input_back = r.input_back;
        output_back = r.output_back;
        ran = RanTo-weaker P Q R W files.issuing base tells status bytes files.output (output old) (output new) weaker r.ran;
      }))
