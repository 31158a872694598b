-- Members that are read are lawful.
use Rattle.std.proofs.Common.{◌≡◌, ℕ, List, [], ◌∷◌, ◌++◌, map, Bool, true, false, cond, ◌&&◌, Option, None, Some, Ok, refl, ap, subst, ◌∙◌}
use Rattle.std.specs.Prelude.{◌==◌, nat_le, is_ok}
use Rattle.std.specs.Result.{result_ok}
use Rattle.access_levels.specs.Spelling.{id_of, level_of}
use Rattle.access_levels.specs.declared.levels.Level.{Level}
use Rattle.generic_names.specs.Spelled.{Spelled}
use Rattle.command_words.specs.declared.quoting.Quoting.TheVariants.{Ignored}
use Rattle.command_words.specs.Bytes.{upper}
use Rattle.command_words.specs.ValuedWords.{ValuedWord}
use Rattle.command_values.specs.declared.faults.Syntax.TheVariants as faults
use Rattle.command_values.specs.Results.{◌>>=◌, or_fault}
use Rattle.command_values.specs.WordsOfValues.{word_of}
use Rattle.command_fields.specs.declared.member_form.MemberForm.{MemberForm}
use Rattle.command_fields.specs.declared.member_form.MemberForm.TheVariants as member_forms
use Rattle.command_values.specs.Members.{whole_text, named_so, member_named, parted, number_behind, number_of, access_with, access_of, security_level_with, security_level_of, category_of, member_in, dropped_in, each_of, some_of, added, dropped}
use Rattle.command_fields.specs.LawfulMembers.{if_number, id_name}
use Rattle.racf_profiles.specs.declared.profiles.Member.{Member}
use Rattle.racf_profiles.specs.declared.profiles.Member.TheVariants as member
use Rattle.generic_names.specs.declared.kind.NameKind.{NameKind}
use Rattle.generic_names.specs.declared.kind.NameKind.TheVariants.{General}
use Rattle.generic_names.specs.Faults.{member_of}
use Rattle.command_values.specs.Values.{one}
use Rattle.command_values.specs.LawfulValues.{AreSome}
use Rattle.command_fields.specs.LawfulMembers.{IsMember, IsDropped, Each, AreMembers, AreDropped}
use Rattle.command_values.proofs.Names.{if-none, result_ok-some, id_of-ok}
use Rattle.command_values.proofs.Patterns.{if-there, member-named-so}
use Rattle.command_values.proofs.Outcomes.{bind-ok, or_fault-ok}

each-fit : {X : Type 0} (read : List ℕ → Option X) (P : X → Type 0) → ((w : List ℕ) (x : X) → read w ≡ Some x → P x) → (front : List X) (is : List ValuedWord) (xs : List X) → each_of read front is ≡ Ok xs → AreSome front → Each P front → AreSome xs × Each P xs
each-fit {X} read P fits front [] xs h some each = let same : front ≡ xs = cc in subst (λ (ys : List X). AreSome ys × Each P ys) same (some, each)
each-fit {X} read P fits front (i ∷ is) xs h some each =
    let word = bind-ok (word_of Ignored i) (λ w. or_fault (read w.1) (faults.BadValue w.0) >>= λ x. each_of read (front ++ x ∷ []) is) xs h in
    let one = bind-ok (or_fault (read word.0.1) (faults.BadValue word.0.0)) (λ x. each_of read (front ++ x ∷ []) is) xs word.2 in
    each-fit read P fits (front ++ one.0 ∷ []) is xs one.2 (some-push front one.0) (each-push front one.0 each (fits word.0.1 one.0 (or_fault-ok (read word.0.1) (faults.BadValue word.0.0) one.0 one.1)))
  where
    some-push : (front : List X) (x : X) → AreSome (front ++ x ∷ [])
    some-push [] x = tt
    some-push (y ∷ front) x = tt

    each-push : (front : List X) (x : X) → Each P front → P x → Each P (front ++ x ∷ [])
    each-push [] x h one = (one, tt)
    each-push (y ∷ front) x h one = (h.0, each-push front x h.1 one)

some-fit : {X : Type 0} (read : List ℕ → Option X) (P : X → Type 0) → ((w : List ℕ) (x : X) → read w ≡ Some x → P x) → (p : ℕ) (is : List ValuedWord) (xs : List X) → some_of read p is ≡ Ok xs → AreSome xs × Each P xs
some-fit read P fits p [] xs h = cc
some-fit read P fits p (i ∷ is) xs h =
    let word = bind-ok (word_of Ignored i) (λ w. or_fault (read w.1) (faults.BadValue w.0) >>= λ x. each_of read (x ∷ []) is) xs h in
    let one = bind-ok (or_fault (read word.0.1) (faults.BadValue word.0.0)) (λ x. each_of read (x ∷ []) is) xs word.2 in
    each-fit read P fits (one.0 ∷ []) is xs one.2 tt (fits word.0.1 one.0 (or_fault-ok (read word.0.1) (faults.BadValue word.0.0) one.0 one.1), tt)

name-fits : (kind : NameKind) (o : Option (List ℕ)) (n : Spelled) → named_so kind o ≡ Some n → result_ok (member_of kind n.text) ≡ Some n
name-fits kind None n h = cc
name-fits kind (Some t) n h = ap (λ x. result_ok (member_of kind x)) (member-named-so kind t n h).text ∙ h

access-fits : (kind : NameKind) (o : Option Spelled) (l : Option Level) (m : Member) → access_with o l ≡ Some m → ((n : Spelled) → o ≡ Some n → result_ok (member_of kind n.text) ≡ Some n) → IsMember (member_forms.Access kind) m
access-fits kind None l m h fits = cc
access-fits kind (Some n) None m h fits = cc
access-fits kind (Some n) (Some l) m h fits = let same : member.Access n l ≡ m = cc in subst (λ (x : Member). IsMember (member_forms.Access kind) x) same (fits n refl)

security_level-fits : (o : Option (List ℕ)) (n : Option ℕ) (m : Member) → security_level_with o n ≡ Some m → ((x : List ℕ) → o ≡ Some x → id_of x ≡ Ok x) → ((k : ℕ) → n ≡ Some k → if_number (Some k) ≡ Some k) → IsMember member_forms.SecurityLevel m
security_level-fits None n m h fits numbers = cc
security_level-fits (Some x) None m h fits numbers = cc
security_level-fits (Some x) (Some n) m h fits numbers = let same : member.SecurityLevel x n ≡ m = cc in subst (λ (y : Member). IsMember member_forms.SecurityLevel y) same (fits x refl, numbers n refl)

category-fits : (o : Option (List ℕ)) (m : Member) → category_of o ≡ Some m → ((x : List ℕ) → o ≡ Some x → id_of x ≡ Ok x) → IsMember member_forms.Category m
category-fits None m h fits = cc
category-fits (Some x) m h fits = let same : member.Category x ≡ m = cc in subst (λ (y : Member). IsMember member_forms.Category y) same (fits x refl)

id-fits : (w x : List ℕ) → result_ok (id_of (map upper w)) ≡ Some x → id_of x ≡ Ok x
id-fits w x h =
    let read : id_of (map upper w) ≡ Ok x = result_ok-some (id_of (map upper w)) x h in
    let same : x ≡ map upper w = (id_of-ok (map upper w) x read).0 in
    ap id_of same ∙ read

range-fits : (o : Option ℕ) (k : ℕ) → if_number o ≡ Some k → if_number (Some k) ≡ Some k
range-fits None k h = cc
range-fits (Some n) k h = range-one (nat_le 1 n && nat_le n 254) refl h
  where
    range-one : (c : Bool) → (nat_le 1 n && nat_le n 254) ≡ c → cond c (Some n) None ≡ Some k → if_number (Some k) ≡ Some k
    range-one true is h = let same : n ≡ k = cc in subst (λ (m : ℕ). if_number (Some m) ≡ Some m) same (rw is refl)
    range-one false is h = cc

number-fits : (w : List ℕ) (k : ℕ) → number_of w ≡ Some k → if_number (Some k) ≡ Some k
number-fits [] k h = cc
number-fits (b ∷ w) k h = range-fits (number_behind 0 (b ∷ w)) k (if-none (b == 48) (if_number (number_behind 0 (b ∷ w))) k h).1

access_of-fits : (kind : NameKind) (o : Option (List ℕ × List ℕ)) (m : Member) → access_of kind o ≡ Some m → IsMember (member_forms.Access kind) m
access_of-fits kind None m h = cc
access_of-fits kind (Some parts) m h = access-fits kind (member_named kind parts.0) (level_of (map upper parts.1)) m h (name-fits kind (whole_text parts.0))

security_level_of-fits : (o : Option (List ℕ × List ℕ)) (m : Member) → security_level_of o ≡ Some m → IsMember member_forms.SecurityLevel m
security_level_of-fits None m h = cc
security_level_of-fits (Some parts) m h = security_level-fits (result_ok (id_of (map upper parts.0))) (number_of parts.1) m h (id-fits parts.0) (number-fits parts.1)

member-fits : (form : MemberForm) (w : List ℕ) (m : Member) → member_in form w ≡ Some m → IsMember form m
member-fits (member_forms.Access kind) w m h = access_of-fits kind (parted w) m h
member-fits member_forms.SecurityLevel w m h = security_level_of-fits (parted w) m h
member-fits member_forms.Category w m h = category-fits (result_ok (id_of (map upper w))) m h (id-fits w)

id_name-fits : (t : List ℕ) (n : Spelled) → id_name t ≡ Some n → id_name n.text ≡ Some n
id_name-fits t n h = ap id_name (member-named-so General t n (if-there (is_ok (id_of t)) (result_ok (member_of General t)) n h)).text ∙ h

dropped-fits : (form : MemberForm) (w : List ℕ) (n : Spelled) → dropped_in form w ≡ Some n → IsDropped form n
dropped-fits (member_forms.Access kind) w n h = name-fits kind (whole_text w) n h
dropped-fits member_forms.SecurityLevel w n h = id_name-fits (map upper w) n h
dropped-fits member_forms.Category w n h = id_name-fits (map upper w) n h

pub added-fit : (form : Option MemberForm) (p : ℕ) (is : List ValuedWord) (ms : List Member) → added form p is ≡ Ok ms → AreSome ms × AreMembers form ms
added-fit None p is ms h = cc
added-fit (Some form) p is ms h = some-fit (member_in form) (IsMember form) (member-fits form) p is ms h

pub dropped-fit : (form : Option MemberForm) (p : ℕ) (is : List ValuedWord) (ns : List Spelled) → dropped form p is ≡ Ok ns → AreSome ns × AreDropped form ns
dropped-fit None p is ns h = cc
dropped-fit (Some form) p is ns h = some-fit (dropped_in form) (IsDropped form) (dropped-fits form) p is ns h
