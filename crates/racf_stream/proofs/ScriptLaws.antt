-- What a stream's run says of the desk that it was given and gives back.
use Rattle.std.proofs.Common.{◌≡◌, ℕ, ◌+◌, Bool, true, false, List, [], ◌++◌, None, Some, refl, sym, ◌∙◌, ap, subst, append-nil}
use Rattle.std.specs.Prelude.{Option, IsTrue, IfSome}
use Rattle.std.specs.Io.KnownBytes.{prepend_known, append_known, IsAtEnd}
use Rattle.racf_outside.specs.Disk.{History}
use Rattle.racf_checkpoint.specs.Stored.{StoreOn}
use Rattle.desk_rules.specs.Durable.{SameIdle}
use Rattle.desk_rules.specs.Made.{DeskOn, number_at}
use Rattle.desk_rules.specs.Position.{Position}
use Rattle.statements.specs.declared.issuer.Issuing.{Issuing}
use Rattle.statements.specs.declared.statement.Statement.{Statement}
use Rattle.statements.specs.declared.status.Status.{Status}
use Rattle.statements.specs.declared.status.Status.TheVariants.{Done, Refusals, Usage, ReadFault, WriteFault, DiskFault, NotFormatted, Damaged, NoMemory, InputTooLong}
use Rattle.racf_stream.specs.Durable.{StreamOn, StandsIn, StaysAlong, LeavesInDoubt, fault_in, most_left, most_left_of}
use Rattle.statements.specs.Runs.{after, output, Ran, WroteAll, whole_status, status_of}
use Rattle.racf_stream.specs.Script.{stream, fault_at, fault_of, script_output, script_status, StandsAt}
use Rattle.statements.specs.Status.{is_whole}
use Rattle.statements.proofs.RunLaws.{Ran-weaker}
use Rattle.racf_stream.specs.Stream.{State, number_of, new_stream}

-- a new stream stands at its base
pub begins_new : (issuing : Issuing) (base : Position) (s : State) → s ≡ new_stream issuing base → s ≡ new_stream s.issuing s.position
unfolding new_stream
begins_new issuing base s is =
    is ∙ ap (λ (i : Issuing). new_stream i base) (ap (λ (x : State). x.issuing) (sym is)) ∙ ap (new_stream s.issuing) (ap (λ (x : State). x.position) (sym is))

pub position_new : (issuing : Issuing) (base : Position) (s : State) → s ≡ new_stream issuing base → s.position ≡ base
unfolding new_stream
position_new issuing base s is = ap (λ (x : State). x.position) is

pub issuing_new : (issuing : Issuing) (base : Position) (s : State) → s ≡ new_stream issuing base → s.issuing ≡ issuing
unfolding new_stream
issuing_new issuing base s is = ap (λ (x : State). x.issuing) is

pub stands_new : {D : Type 0} (issuing : Issuing) (desk : DeskOn D) → desk.halted ≡ false → desk.committed ≡ false → StandsAt desk (new_stream issuing desk.position)
unfolding new_stream
stands_new issuing desk running settled = record { position = refl; halted = running; settled = settled }

-- the run of a stream as one of the desk
pub ran_script : {D : Type 0} (desk : DeskOn D) (s t : StreamOn D) (issuing : Issuing) (base : Position) (R W : Type 0) (status : Status) (source left before now : Option (List ℕ))
    → Ran (stream (fault_in t) s.state.issuing s.state.position) (λ (x : State). t.state ≡ x) R W status source left before now → s.state.issuing ≡ issuing → s.state.position ≡ base → StandsIn desk t
    → Ran (stream (fault_of desk) issuing base) (StandsAt desk) R W status source left before now
ran_script desk s t issuing base R W status source left before now r given at stands =
    let fault : fault_in t ≡ fault_of desk =
    ap (λ h. fault_at h (number_of t.state)) (sym stands.halted) ∙ ap (λ (p : Position). fault_at desk.halted p.image.generation) (sym stands.position) in
    let stood : StandsAt desk t.state = record { position = stands.position; halted = stands.halted; settled = stands.settled } in
    subst (λ b. Ran (stream (fault_of desk) issuing b) (StandsAt desk) R W status source left before now) at
    (subst (λ i. Ran (stream (fault_of desk) i s.state.position) (StandsAt desk) R W status source left before now) given
    (subst (λ f. Ran (stream f s.state.issuing s.state.position) (StandsAt desk) R W status source left before now) fault
    (Ran-weaker (stream (fault_in t) s.state.issuing s.state.position) (λ (x : State). t.state ≡ x) (StandsAt desk) R W status source left before now (λ x is. subst (StandsAt desk) is stood) r)))

-- ---- what was read of a source that tells its bytes
read_all : (source more : Option (List ℕ)) (read : List ℕ) → source ≡ prepend_known read more → IsAtEnd more → IfSome source (λ bytes. read ≡ bytes)
read_all None more read given end = tt
read_all (Some bytes) None read given end = cc
read_all (Some bytes) (Some told) read given end = let same : Some bytes ≡ Some (read ++ []) = given ∙ ap (λ rest. Some (read ++ rest)) end in sym (same_bytes same)
  where
    same_bytes : Some bytes ≡ Some (read ++ []) → bytes ≡ read
    same_bytes h = let is : bytes ≡ read ++ [] = cc in is ∙ append-nil read

if_read : (source : Option (List ℕ)) (P Q : List ℕ → Type 0) → ((bytes : List ℕ) → P bytes → Q bytes) → IfSome source P → IfSome source Q
if_read None P Q f p = tt
if_read (Some bytes) P Q f p = f bytes p

-- a whole run in which no disk failed
not_failed : (failed refused : Bool) → IsTrue (is_whole (whole_status failed refused)) → failed ≡ false
not_failed false refused h = refl
not_failed true refused h = cc

all_wrote : {D : Type 0} (desk : DeskOn D) (issuing : Issuing) (base : Position) (status : Status) (source more before now : Option (List ℕ)) (read : List ℕ) (worked : List Statement) (written : List ℕ)
    → IsTrue (is_whole status) → source ≡ prepend_known read more → now ≡ append_known before written
    → StandsAt desk (after (stream (fault_of desk) issuing base) worked (new_stream issuing base)) → WroteAll (stream (fault_of desk) issuing base) status read more worked written
    → IfSome source (λ bytes. (now ≡ append_known before (script_output None issuing base bytes)) × (status ≡ script_status None issuing base bytes))
all_wrote desk issuing base status source more before now read worked written is given gained stands w =
    let m = stream (fault_of desk) issuing base in
    let runs : desk.halted ≡ false =
    stands.halted ∙ not_failed (m.has_failed (after m worked m.start)) (m.has_refused (after m worked m.start)) (subst (λ (x : Status). IsTrue (is_whole x)) w.is_status is) in
    let none : fault_of desk ≡ None = ap (λ h. fault_at h desk.position.image.generation) runs in
    let text : written ≡ script_output None issuing base read =
    w.whole ∙ ap (λ items. output m items (new_stream issuing base)) w.all ∙ ap (λ f. script_output f issuing base read) none in
    let state : status ≡ script_status None issuing base read =
    w.is_status ∙ ap (λ items. status_of m (after m items (new_stream issuing base))) w.all ∙ ap (λ f. script_status f issuing base read) none in
    if_read source (λ bytes. read ≡ bytes) (λ bytes. (now ≡ append_known before (script_output None issuing base bytes)) × (status ≡ script_status None issuing base bytes))
    (λ bytes same. subst (λ (xs : List ℕ). (now ≡ append_known before (script_output None issuing base xs)) × (status ≡ script_status None issuing base xs)) same (gained ∙ ap (append_known before) text, state))
    (read_all source more read given w.ended)

pub ran_whole : {D : Type 0} (desk : DeskOn D) (issuing : Issuing) (base : Position) (R W : Type 0) (status : Status) (source left before now : Option (List ℕ)) → IsTrue (is_whole status) → Ran (stream (fault_of desk) issuing base) (StandsAt desk) R W status source left before now
    → IfSome source (λ bytes. (now ≡ append_known before (script_output None issuing base bytes)) × (status ≡ script_status None issuing base bytes))
ran_whole desk issuing base R W Done source left before now is r = all_wrote desk issuing base Done source r.more before now r.read r.worked r.written is r.given r.gained r.stands r.wrote
ran_whole desk issuing base R W Refusals source left before now is r = all_wrote desk issuing base Refusals source r.more before now r.read r.worked r.written is r.given r.gained r.stands r.wrote
ran_whole desk issuing base R W Usage source left before now is r = cc
ran_whole desk issuing base R W ReadFault source left before now is r = cc
ran_whole desk issuing base R W WriteFault source left before now is r = cc
ran_whole desk issuing base R W DiskFault source left before now is r = cc
ran_whole desk issuing base R W NotFormatted source left before now is r = cc
ran_whole desk issuing base R W (Damaged place) source left before now is r = cc
ran_whole desk issuing base R W NoMemory source left before now is r = cc
ran_whole desk issuing base R W InputTooLong source left before now is r = cc

-- what every crash leaves, of the same input, base and stores under other names
pub along_as : {D : Type 0} (tells : D → Option History) (given issuing : Issuing) (at base : Position) (known source : Option (List ℕ)) (few most : ℕ) (old first new last : StoreOn D)
    → given ≡ issuing → at ≡ base → known ≡ source → few ≡ most → old ≡ first → new ≡ last → StaysAlong tells given at known few old new → StaysAlong tells issuing base source most first last
along_as {D = D} tells given issuing at base known source few most old first new last is_given is_at is_known is_few is_old is_new along =
    subst (λ (i : Issuing). StaysAlong tells i base source most first last) is_given
    (subst (λ (b : Position). StaysAlong tells given b source most first last) is_at
    (subst (λ (k : Option (List ℕ)). StaysAlong tells given at k most first last) is_known
    (subst (λ (m : ℕ). StaysAlong tells given at known m first last) is_few
    (subst (λ (o : StoreOn D). StaysAlong tells given at known few o last) is_old
    (subst (λ (n : StoreOn D). StaysAlong tells given at known few old n) is_new along)))))

-- as many commands may be left as the desk says
pub left_is : {D : Type 0} (desk : DeskOn D) (s : StreamOn D) → StandsIn desk s → most_left_of s.state ≡ most_left desk.halted (number_at desk.position)
left_is desk s stands =
    ap (λ (p : Position). most_left s.state.halted (number_at p)) (sym stands.position) ∙ ap (λ h. most_left h (number_at desk.position)) (sym stands.halted)

-- and the disk that doesn't count
pub idle_as : {D : Type 0} (old first new last : StoreOn D) → old ≡ first → new ≡ last → SameIdle old new → SameIdle first last
idle_as old first new last is_old is_new idle = subst (λ o. SameIdle o last) is_old (subst (λ n. SameIdle old n) is_new idle)

-- and the command that is in doubt
pub doubt_as : {D : Type 0} (tells : D → Option History) (given issuing : Issuing) (at base : Position) (known source : Option (List ℕ)) (old new : StoreOn D) (there position : Position) → given ≡ issuing → at ≡ base → known ≡ source → old ≡ new → there ≡ position
    → LeavesInDoubt tells given at known old there → LeavesInDoubt tells issuing base source new position
doubt_as {D = D} tells given issuing at base known source old new there position is_given is_at is_known is_store is_there doubt =
    subst (λ (i : Issuing). LeavesInDoubt tells i base source new position) is_given
    (subst (λ (b : Position). LeavesInDoubt tells given b source new position) is_at
    (subst (λ (k : Option (List ℕ)). LeavesInDoubt tells given at k new position) is_known
    (subst (λ (o : StoreOn D). LeavesInDoubt tells given at known o position) is_store
    (subst (λ (p : Position). LeavesInDoubt tells given at known old p) is_there doubt))))
