-- The words of a decision hold no line feed, nor do the user and the groups of the ACEE of a user
-- who is verified.
use Rattle.std.proofs.Common.{◌≡◌, ℕ, zero, suc, Bool, true, false, cond, not, List, [], ◌∷◌, ◌++◌, Option, None, Some, Result, Ok, Err, refl, subst, bytes_eq, codes}
use Rattle.std.specs.Prelude.{IfSome, IfOk, find, filter, position, slice_get, option_and_then, unwrap_or, decimal}
use Rattle.std.specs.List.{AllByRecursion}
use Rattle.std.specs.Option.{option_map_or}
use Rattle.std.proofs.lemmas.Option.{IfSome_then}
use Rattle.access_levels.specs.declared.levels.Level.{Level}
use Rattle.access_levels.specs.declared.levels.Level.TheVariants.{NoAccess}
use Rattle.access_levels.specs.declared.entries.PortClass.{PortClass}
use Rattle.access_levels.specs.declared.entries.PortClass.TheVariants.{Terminal}
use Rattle.access_levels.specs.declared.entries.Condition.{Condition}
use Rattle.access_levels.specs.declared.entries.Who.{Who}
use Rattle.access_levels.specs.declared.entries.Who.TheVariants.{Star, Named}
use Rattle.access_levels.specs.declared.entries.Entry.{Entry}
use Rattle.access_levels.specs.declared.entries.CondEntry.{CondEntry}
use Rattle.access_levels.specs.Level.{level_name, port_class_name}
use Rattle.access_lists.specs.declared.best.GroupEntry.{GroupEntry}
use Rattle.access_lists.specs.Answers as lists
use Rattle.access_lists.specs.Answers.{for_group, as_group_entry, first_of_two, goes_before}
use Rattle.generic_names.specs.Spelled.{Spelled}
use Rattle.generic_names.specs.declared.kind.NameKind.TheVariants.{General}
use Rattle.generic_names.specs.Covers.{covers}
use Rattle.generic_names.specs.Before.{before}
use Rattle.generic_names.specs.Best.{more_specific, most_specific, best}
use Rattle.racf_profiles.specs.declared.users.User.{User}
use Rattle.racf_profiles.specs.declared.users.Connect.{Connect as Connection}
use Rattle.racf_profiles.specs.declared.profiles.Profile.{Profile}
use Rattle.racf_profiles.specs.declared.profiles.Member.{Member}
use Rattle.racf_profiles.specs.declared.profiles.Member.TheVariants as member
use Rattle.racf_profiles.specs.declared.class_rows.ClassRow.{ClassRow}
use Rattle.racf_profiles.specs.declared.options.Options.{Options}
use Rattle.racf_profiles.specs.declared.rows.Rows.{Rows}
use Rattle.racf_profiles.specs.Lookup.{is_class, is_user, class_of, user_of, profile_of}
use Rattle.racf_profiles.specs.LawfulProfiles.{member_name}
use Rattle.racf_profiles.specs.State.{State, copy_of, effective}
use Rattle.global_table.specs.declared.table.Grant.{Grant}
use Rattle.raclist_image.specs.GlobalMembers.{global_members}
use Rattle.acee.specs.declared.acee.Acee.{Acee}
use Rattle.acee.specs.declared.groups.AceeGroup.{AceeGroup}
use Rattle.acee.specs.declared.request.VerifyRequest.{VerifyRequest}
use Rattle.acee.specs.declared.request.VerifyFault.{VerifyFault}
use Rattle.acee.specs.Groups.{acee_group}
use Rattle.acee.specs.Verify.{acee_for, acee_unless, acee_of_user, acee_of}
use Rattle.decision.specs.declared.answer.Answer.{Answer}
use Rattle.decision.specs.declared.outcome.Decision.{Decision}
use Rattle.decision.specs.declared.outcome.Rule.{Rule}
use Rattle.decision.specs.declared.outcome.Rule.TheVariants as rule
use Rattle.seclabels.specs.declared.classified.Classified.{Classified}
use Rattle.seclabels.specs.declared.classified.Classified.TheVariants.{LevelTooLow, CategoryMissing, LabelNotDominant, WriteDown}
use Rattle.decision.specs.Classification.{profile_for, classified}
use Rattle.decision.specs.Table.{
  considered,
  operating_over,
  user_entry,
  group_entry,
  star_entry,
  conditional_entry,
  case,
  first_answer,
  granted_to,
  cases_of_class,
  fast_cases_of_class,
  cases_without_profile,
  cases_with_profile,
  no_profile,
  insufficient,
  answer_without_profile,
  decided_after,
  decided,
  fast_decided,
}
use Rattle.decision.specs.Verify.{admitted, verified}
use Rattle.request_files.specs.Answers.{profile_words, found_words, port_words, category_name, classified_words, member_words, rule_words, decision_words}
use Rattle.audit_records.specs.Feedless.{IsFeedless, IsFeedlessUser, IsFeedlessMember, IsFeedlessProfile, IsFeedlessWho, AreFeedlessProfiles, AreFeedless, IsFeedlessState}
use Rattle.audit_records.proofs.Feedless.{joined, decimal-feedless, either, always, if-either, if-map, if-then, if-found, all-kept, all-made, copy-feedless, profile_of-feedless}
use Rattle.audit_records.proofs.FeedlessLine.{level-words}
use Rattle.request_files.specs.OneLine.{IsFeedlessAcee}

-- ---- the words
port_class-words : (class : PortClass) → IsFeedless (port_class_name class)
port_class-words Terminal = refl
port_class-words other = refl

abbrev IsFeedlessRule : Rule → Type 0
IsFeedlessRule (rule.GroupEntry group) = IsFeedless group
IsFeedlessRule (rule.GroupOperations group) = IsFeedless group
IsFeedlessRule (rule.Conditional port) = IsFeedless port.name
IsFeedlessRule other = Unit {0}

abbrev IsFeedlessName : Spelled → Type 0
IsFeedlessName name = IsFeedless name.text

profile-words : (profile : Option Spelled) → IfSome profile IsFeedlessName → IsFeedless (profile_words profile)
profile-words None h = refl
profile-words (Some name) h = h

found-words : (decision : Decision) → IfSome decision.profile IsFeedlessName → IsFeedless (found_words decision)
found-words decision h =
    joined (profile_words decision.profile ++ codes " ") (level_name decision.found) (joined (profile_words decision.profile) (codes " ") (profile-words decision.profile h) refl) (level-words decision.found)

port-words : (port : Condition) → IsFeedless port.name → IsFeedless (port_words port)
port-words port h =
    let class = port_class_name port.class in
    joined ((class ++ codes "(") ++ port.name) (codes "))") (joined (class ++ codes "(") port.name (joined class (codes "(") (port_class-words port.class) refl) h) refl

abbrev AreNames : List (List ℕ) → Type 0
AreNames names = AllByRecursion IsFeedless names

category-words : (categories : List (List ℕ)) (number : ℕ) → AreNames categories → IsFeedless (category_name categories number)
category-words [] number are = refl
category-words (name ∷ names) zero are = are.0
category-words (name ∷ names) (suc number) are = category-words names number are.1

classified-words : (categories : List (List ℕ)) → AreNames categories → (why : Classified) → IsFeedless (classified_words categories why)
classified-words categories are LevelTooLow = refl
classified-words categories are (CategoryMissing number) = category-words categories number are
classified-words categories are LabelNotDominant = refl
classified-words categories are WriteDown = refl

-- a member of a global access table
member_name-words : (member : Member) → IsFeedlessMember member → IsFeedless (member_name member)
member_name-words (member.Access resources level) h = h
member_name-words (member.SecurityLevel name number) h = h
member_name-words (member.Category name) h = h
member_name-words (member.Traits traits) h = refl

member-words : (members : List Member) (place : ℕ) → AllByRecursion IsFeedlessMember members → IsFeedless (member_words members place)
member-words [] place are = refl
member-words (one ∷ members) zero are = member_name-words one are.0
member-words (one ∷ members) (suc place) are = member-words members place are.1

global_members-feedless : (class : List ℕ) (rows : Rows) → AreFeedless rows → AllByRecursion IsFeedlessMember (global_members class rows)
global_members-feedless class rows are =
    by (profile_of (codes "GLOBAL") (record { kind = General; text = class }) rows) (profile_of-feedless (codes "GLOBAL") (record { kind = General; text = class }) rows are)
  where
    by : (o : Option Profile) → IfSome o IsFeedlessProfile → AllByRecursion IsFeedlessMember (option_map_or (λ (profile : Profile). profile.members) o [])
    by None h = tt
    by (Some profile) h = h.members

module _ (rows : Rows) (are : AreFeedless rows) (class : List ℕ) where
  global-words : (place : ℕ) (found : Level) → IsFeedless (codes "GLOBAL " ++ member_words (global_members class rows) place ++ codes " " ++ level_name found)
  global-words place found =
      let member = member_words (global_members class rows) place in
      joined (member ++ codes " ") (level_name found) (joined member (codes " ") (member-words (global_members class rows) place (global_members-feedless class rows are)) refl) (level-words found)

  rule-words : (r : Rule) (decision : Decision) → IsFeedlessRule r → IfSome decision.profile IsFeedlessName → IsFeedless (rule_words rows class r decision)
  rule-words rule.NoClass decision h p = refl
  rule-words rule.ClassOff decision h p = refl
  rule-words rule.NotListed decision h p = refl
  rule-words (rule.Global place) decision h p = global-words place decision.found
  rule-words rule.NoProfile decision h p = refl
  rule-words rule.ProtectAll decision h p = refl
  rule-words (rule.Classified why) decision h p =
      let words = classified_words rows.options.categories why in
      joined words (profile_words decision.profile) (classified-words rows.options.categories are.categories why) (profile-words decision.profile p)
  rule-words rule.OwnData decision h p = profile-words decision.profile p
  rule-words (rule.GroupEntry group) decision h p = joined group (found_words decision) h (found-words decision p)
  rule-words (rule.Conditional port) decision h p = joined (port_words port) (found_words decision) (port-words port h) (found-words decision p)
  rule-words (rule.GroupOperations group) decision h p = joined group (found_words decision) h (found-words decision p)
  rule-words other decision h p = found-words decision p

record IsFeedlessDecision (decision : Decision) : Type 0 where
  rule : IsFeedlessRule decision.rule
  profile : IfSome decision.profile IsFeedlessName

decision-words : (rows : Rows) → AreFeedless rows → (class : List ℕ) (decision : Decision) → IsFeedlessDecision decision → IsFeedless (decision_words rows class decision)
decision-words rows are class decision h =
    joined (decimal decision.rc ++ codes " ") (rule_words rows class decision.rule decision) (joined (decimal decision.rc) (codes " ") (decimal-feedless decision.rc) refl) (rule-words rows are class decision.rule decision h.rule h.profile)

-- ---- the profile that decides
module _ {A : Type 0} (P : A → Type 0) where
  more-specific : (name_of : A → Spelled) (x : A) (o : Option A) → P x → IfSome o P → P (more_specific name_of x o)
  more-specific name_of x None h k = h
  more-specific name_of x (Some y) h k = either P (before (name_of y) (name_of x)) y x k h

  most-specific : (name_of : A → Spelled) (xs : List A) → AllByRecursion P xs → IfSome (most_specific name_of xs) P
  most-specific name_of [] h = tt
  most-specific name_of (x ∷ xs) h = more-specific name_of x (most_specific name_of xs) h.0 (most-specific name_of xs h.1)

  best-all : (name_of : A → Spelled) (xs : List A) (name : Spelled) → AllByRecursion P xs → IfSome (best name_of xs name) P
  best-all name_of xs name h =
      if-either P (find (λ p. bytes_eq (name_of p).text name.text) xs) (most_specific name_of (filter (λ p. covers (name_of p) name) xs))
      (if-found P (λ p. bytes_eq (name_of p).text name.text) xs h)
      (most-specific name_of (filter (λ p. covers (name_of p) name) xs) (all-kept P (λ p. covers (name_of p) name) xs h))

  got-all : (xs : List A) (i : ℕ) → AllByRecursion P xs → IfSome (slice_get xs i) P
  got-all [] i h = tt
  got-all (x ∷ xs) zero h = h.0
  got-all (x ∷ xs) (suc i) h = got-all xs i h.1

effective-feedless : (state : State) (class : List ℕ) → IsFeedlessState state → IfSome (effective class state) (AllByRecursion IsFeedlessProfile)
effective-feedless state class are =
    if-map (AllByRecursion IsFeedlessProfile) (λ (row : ClassRow). cond row.listed (copy_of class state.copies) row.profiles) (class_of class state.rows)
    (IfSome_then (class_of class state.rows) (if-found AreFeedlessProfiles (is_class class) state.rows.classes are.rows.classes)
    (λ row h. either (AllByRecursion IsFeedlessProfile) row.listed (copy_of class state.copies) row.profiles (copy-feedless class state are) h))

profile_for-feedless : (state : State) (class : List ℕ) (name : Spelled) → IsFeedlessState state → IfSome (profile_for state class name) IsFeedlessProfile
profile_for-feedless state class name are =
    if-then (AllByRecursion IsFeedlessProfile) IsFeedlessProfile (λ profiles. best (λ (profile : Profile). profile.name) profiles name)
    (λ profiles h. best-all IsFeedlessProfile (λ (profile : Profile). profile.name) profiles name h) (effective class state) (effective-feedless state class are)

-- ---- the entries
abbrev IsFeedlessGroupEntry : GroupEntry → Type 0
IsFeedlessGroupEntry entry = IsFeedless entry.group

first-of_two : (a b : Option GroupEntry) → IfSome a IsFeedlessGroupEntry → IfSome b IsFeedlessGroupEntry → IfSome (first_of_two a b) IsFeedlessGroupEntry
first-of_two None b h k = k
first-of_two (Some entry) None h k = h
first-of_two (Some entry) (Some other) h k = either (λ o. IfSome o IsFeedlessGroupEntry) (goes_before other entry) (Some other) (Some entry) k h

for-group : (groups : List (List ℕ)) (level : Level) (who : Who) → IsFeedlessWho who → IfSome (for_group groups level who) IsFeedlessGroupEntry
for-group groups level Star h = tt
for-group groups level (Named id) h =
    if-map IsFeedlessGroupEntry (λ place. record { group = id; level = level; place = place }) (position (bytes_eq id) groups) (always (position (bytes_eq id) groups) h)

group-entry : (groups : List (List ℕ)) (list : List Entry) → AllByRecursion (λ (entry : Entry). IsFeedlessWho entry.who) list → IfSome (lists.group_entry groups list) IsFeedlessGroupEntry
group-entry groups [] h = tt
group-entry groups (entry ∷ list) h =
    first-of_two (as_group_entry groups entry) (lists.group_entry groups list) (for-group groups entry.level entry.who h.0) (group-entry groups list h.1)

abbrev IsFeedlessConditional : CondEntry → Type 0
IsFeedlessConditional entry = IsFeedless entry.condition.name

conditional-entry : (options : Options) (acee : Acee) (profile : Profile) → IsFeedlessProfile profile → IfSome (conditional_entry options acee profile) IsFeedlessConditional
conditional-entry options acee profile h =
    let place = lists.answered_when acee.port acee.user (considered options acee) acee.attributes.restricted profile.conditional in
    if-then (λ place. Unit {0}) IsFeedlessConditional (λ place. slice_get profile.conditional place)
    (λ place there. got-all IsFeedlessConditional profile.conditional place h.conditional) place (always place tt)

operating-over : (rows : Rows) (acee : Acee) (owner : List ℕ) → IsFeedlessAcee acee → IfSome (operating_over rows acee owner) IsFeedless
operating-over rows acee owner h =
    if-map IsFeedless (λ (group : AceeGroup). group.group) _ (if-found (λ (group : AceeGroup). IsFeedless group.group) _ acee.groups h.groups)

-- ---- the cases
abbrev IsFeedlessCase : Option Answer → Type 0
IsFeedlessCase test = (answer : Answer) → test ≡ Some answer → IsFeedlessRule answer.rule

never-case : IsFeedlessCase None
never-case answer e = cc

fits : (b : Bool) (r : Rule) (rc : ℕ) (found : Level) → IsFeedlessRule r → IsFeedlessCase (case b r rc found)
fits true r rc found h answer e = let same : record { rule = r; rc = rc; found = found } ≡ answer = cc in subst (λ (a : Answer). IsFeedlessRule a.rule) same h
fits false r rc found h answer e = cc

with-thing : {X : Type 0} (P : X → Type 0) (of_it : X → Option Answer) → ((x : X) → P x → IsFeedlessCase (of_it x)) → (o : Option X) → IfSome o P → IsFeedlessCase (option_and_then of_it o)
with-thing P of_it is None h answer e = cc
with-thing P of_it is (Some x) h answer e = is x h answer e

first-case : (cases : List (Option Answer)) → AllByRecursion IsFeedlessCase cases → IsFeedlessCase (first_answer cases)
first-case [] h = never-case
first-case (None ∷ cases) h = first-case cases h.1
first-case (Some answer ∷ cases) h = h.0

chosen : (o : Option Answer) (other : Answer) → IsFeedlessCase o → IsFeedlessRule other.rule → IsFeedlessRule (unwrap_or o other).rule
chosen None other h k = k
chosen (Some answer) other h k = h answer refl

of_class : (rows : Rows) (acee : Acee) (class : List ℕ) (name : Spelled) (asked : Level) → AllByRecursion IsFeedlessCase (cases_of_class rows acee class name asked)
of_class rows acee class name asked = (
  fits _ rule.NoClass 4 NoAccess tt,
  (
    fits _ rule.ClassOff 4 NoAccess tt,
    (
      with-thing (λ (grant : Grant). Unit {0}) _ (λ (grant : Grant) e. fits _ (rule.Global grant.place) 0 grant.level tt) (granted_to rows acee class name asked) (always (granted_to rows acee class name asked) tt),
      tt,
    ),
  ),
)

of_listed_class : (rows : Rows) (class : List ℕ) → AllByRecursion IsFeedlessCase (fast_cases_of_class rows class)
of_listed_class rows class = (fits _ rule.NoClass 4 NoAccess tt, (fits _ rule.ClassOff 4 NoAccess tt, (fits _ rule.NotListed 4 NoAccess tt, tt)))

without_profile : (options : Options) (class : List ℕ) → AllByRecursion IsFeedlessCase (cases_without_profile options class)
without_profile options class = (fits _ rule.ProtectAll 8 NoAccess tt, tt)

module _ (state : State) (acee : Acee) (groups : IsFeedlessAcee acee) (class : List ℕ) (name : Spelled) (asked : Level) where
  with_profile : (bar : Option Classified) (p : Profile) → IsFeedlessProfile p → AllByRecursion IsFeedlessCase (cases_with_profile bar state.rows acee class name asked p)
  with_profile bar p h = (
    with-thing (λ (why : Classified). Unit {0}) _ (λ (why : Classified) e. fits true (rule.Classified why) 8 NoAccess tt) bar (always bar tt),
    (
      fits _ rule.OwnData 0 NoAccess tt,
      (
        with-thing (λ (entry : Entry). Unit {0}) _ (λ (entry : Entry) e. fits _ rule.UserEntry 0 entry.level tt) (user_entry acee p) (always (user_entry acee p) tt),
        (
          with-thing IsFeedlessGroupEntry _ (λ (entry : GroupEntry) e. fits _ (rule.GroupEntry entry.group) 0 entry.level e) (group_entry state.rows.options acee p) (group-entry (considered state.rows.options acee) p.standard h.standard),
          (
            with-thing (λ (entry : Entry). Unit {0}) _ (λ (entry : Entry) e. fits _ rule.Star 0 entry.level tt) (star_entry acee p) (always (star_entry acee p) tt),
            (
              fits _ rule.Uacc 0 p.uacc tt,
              (
                with-thing IsFeedlessConditional _ (λ (entry : CondEntry) e. fits _ (rule.Conditional entry.condition) 0 entry.level e) (conditional_entry state.rows.options acee p) (conditional-entry state.rows.options acee p h),
                (
                  fits _ rule.Operations 0 _ tt,
                  (
                    with-thing IsFeedless _ (λ (group : List ℕ) e. fits _ (rule.GroupOperations group) 0 _ e) (operating_over state.rows acee p.owner) (operating-over state.rows acee p.owner groups),
                    (fits _ rule.Warning 0 _ tt, tt),
                  ),
                ),
              ),
            ),
          ),
        ),
      ),
    ),
  )

  after-cases : (generation : ℕ) (first : Option Answer) (without : Answer) (p : Option Profile) → IsFeedlessCase first → IsFeedlessRule without.rule → IfSome p IsFeedlessProfile → IsFeedlessDecision (decided_after state generation acee class name asked first without p)
  after-cases generation (Some answer) without p h other k = record { rule = h answer refl; profile = tt }
  after-cases generation None without None h other k = record { rule = other; profile = tt }
  after-cases generation None without (Some p) h other k = record {
    rule =
        let bar = classified state acee p asked in
        let cases = cases_with_profile bar state.rows acee class name asked p in
        chosen (first_answer cases) (insufficient bar state.rows acee class name asked p) (first-case cases (with_profile bar p k)) tt;
    profile = k.name;
  }

  pub decided-words : (generation : ℕ) → IsFeedlessState state → IsFeedless (decision_words state.rows class (decided state generation acee class name asked))
  unfolding decided
  decided-words generation are =
      let cases = cases_without_profile state.rows.options class in
      decision-words state.rows are.rows class _ (after-cases generation (first_answer (cases_of_class state.rows acee class name asked)) (answer_without_profile state.rows.options class) (profile_for state class name) (first-case (cases_of_class state.rows acee class name asked) (of_class state.rows acee class name asked)) (chosen (first_answer cases) no_profile (first-case cases (without_profile state.rows.options class)) tt) (profile_for-feedless state class name are))

  pub fast_decided-words : (generation : ℕ) → IsFeedlessState state → IsFeedless (decision_words state.rows class (fast_decided state generation acee class name asked))
  unfolding fast_decided
  fast_decided-words generation are =
      decision-words state.rows are.rows class _ (after-cases generation (first_answer (fast_cases_of_class state.rows class)) no_profile (profile_for state class name) (first-case (fast_cases_of_class state.rows class) (of_listed_class state.rows class)) tt (profile_for-feedless state class name are))

-- ---- VERIFY
unless-acee : (fault : Option VerifyFault) (acee : Acee) → IsFeedlessAcee acee → IfOk (acee_unless fault acee) IsFeedlessAcee
unless-acee (Some fault) acee h = tt
unless-acee None acee h = h

module _ (state : State) (generation : ℕ) (request : VerifyRequest) where
  of-user : (user : Option User) → IfSome user IsFeedlessUser → IfOk (acee_of_user state.rows generation request user) IsFeedlessAcee
  of-user None h = tt
  of-user (Some user) h =
      unless-acee _ (acee_for state.rows generation request user)
      (record {
        user = h.id;
        groups = all-made acee_group (λ (group : AceeGroup). IsFeedless group.group) (filter (λ (connection : Connection). not connection.revoked) user.connects) (all-kept (λ (connection : Connection). IsFeedless connection.group) (λ (connection : Connection). not connection.revoked) user.connects h.groups);
      })

  admitted-acee : (r : Result Acee VerifyFault) → IfOk r IsFeedlessAcee → IfOk (admitted state generation request.label r) IsFeedlessAcee
  admitted-acee (Err fault) h = tt
  admitted-acee (Ok acee) h = unless-acee _ acee h

  pub verified-acee : AreFeedless state.rows → IfOk (verified state generation request) IsFeedlessAcee
  unfolding verified acee_of
  verified-acee are =
      admitted-acee (acee_of state generation request) (of-user (user_of request.user state.rows) (if-found IsFeedlessUser (is_user request.user) state.rows.users are.users))
