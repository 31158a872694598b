-- A value that is read fits its kind, and suits what stands in front.
use Rattle.std.proofs.Common.{◌≡◌, ℕ, List, [], ◌∷◌, map, Bool, true, false, cond, Option, None, Some, Ok, refl, ap, subst, ◌∙◌}
use Rattle.std.specs.Prelude.{◌==◌, bytes_eq, codes}
use Rattle.std.specs.Result.{result_ok}
use Rattle.access_levels.specs.Spelling.{id_of, authority_of, level_of, port_class_of}
use Rattle.access_levels.specs.declared.entries.Who.{Who}
use Rattle.access_levels.specs.declared.entries.Who.TheVariants.{Star, Named}
use Rattle.access_levels.specs.declared.entries.Condition.{Condition}
use Rattle.generic_names.specs.Spelled.{Spelled}
use Rattle.command_words.specs.declared.quoting.Quoting.TheVariants.{Ignored}
use Rattle.command_words.specs.Bytes.{upper}
use Rattle.command_words.specs.Tokens.{tokens}
use Rattle.command_words.specs.ValuedWords.{ValuedWord, Alone, Valued, Unclosed, Parenthesis, valued_words}
use Rattle.command_values.specs.declared.faults.Syntax.TheVariants as faults
use Rattle.command_values.specs.declared.value_kinds.ValueKind.{ValueKind}
use Rattle.command_values.specs.declared.value_kinds.ValueKind.TheVariants as kinds
use Rattle.command_values.specs.declared.values.Content.{Content}
use Rattle.command_values.specs.declared.values.Content.TheVariants as contents
use Rattle.command_values.specs.declared.values.Scope.{Scope}
use Rattle.command_values.specs.declared.values.Known.{Known}
use Rattle.command_values.specs.Results.{◌>>=◌, or_fault}
use Rattle.command_values.specs.WordsOfValues.{clean, word_of, stray, held, unless_stray}
use Rattle.command_fields.specs.ProfileNames.{dataset_profile, class_profile, dataset_text, profile_of_text, dataset_named}
use Rattle.command_values.specs.Members.{added, dropped, number_of}
use Rattle.command_fields.specs.MemberForms.{member_form}
use Rattle.command_values.specs.Entries.{port_name, port_of, port}
use Rattle.command_values.specs.Audits.{audit_rule}
use Rattle.command_values.specs.Values.{name_of, if_name, unquoted, name_text, reset_of, star_or, whos, one, quotes_of, single, names, some_names, several, failures_of, if_longest, truth_of, class_names_of, log_clauses, value}
use Rattle.command_fields.specs.UserNames.{is_name}
use Rattle.command_fields.specs.Classes.{is_longest}
use Rattle.command_values.specs.LawfulValues.{AreNames, IsNonEmpty, Fits, AreNamed, AreWhos, Suits}
use Rattle.command_values.proofs.Names.{name-again}
use Rattle.command_values.proofs.Patterns.{dataset-named, class-named}
use Rattle.command_values.proofs.Outcomes.{bind-ok, or_fault-ok, unless_stray-ok}
use Rattle.command_values.proofs.AuditLawful.{audit-fits}
use Rattle.command_values.proofs.MembersLawful.{added-fit, dropped-fit}
use Rattle.command_values.proofs.NamesLawful.{some_names-fit}
use Rattle.command_values.proofs.LogOptionsLawful.{log_clauses-fit}

if_name-some : (o : Option (List ℕ)) (t : List ℕ) → if_name o ≡ Some t → is_name t ≡ true
if_name-some None t h = cc
if_name-some (Some u) t h = if_name-one u t (is_name u) refl h
  where
    if_name-one : (u t : List ℕ) (c : Bool) → is_name u ≡ c → cond c (Some u) None ≡ Some t → is_name t ≡ true
    if_name-one u t true named h = let same : u ≡ t = cc in subst (λ (s : List ℕ). is_name s ≡ true) same named
    if_name-one u t false unnamed h = cc

name_text-some : (w t : List ℕ) → name_text w ≡ Some t → is_name t ≡ true
name_text-some [] t h = cc
name_text-some (b ∷ bs) t h = name_text-one (b == 39) h
  where
    name_text-one : (c : Bool) → cond c (if_name (unquoted false [] bs)) None ≡ Some t → is_name t ≡ true
    name_text-one true h = if_name-some (unquoted false [] bs) t h
    name_text-one false h = cc

-- fits, and suits what stands in front
abbrev pub FitsHere : Known → ValueKind → Content → Type 0
FitsHere known k v = Fits k v × Suits known k v

pub along-here : (known : Known) (k : ValueKind) (v w : Content) → v ≡ w → FitsHere known k v → FitsHere known k w
along-here known k v w same h = subst (λ (u : Content). FitsHere known k u) same h

pub dataset-fits : (issuer w : List ℕ) (n : Spelled) → dataset_named issuer w ≡ Some n → dataset_profile n.text ≡ Some n
dataset-fits issuer w n h = text-fits (dataset_text issuer w) h
  where
    text-fits : (o : Option (List ℕ)) → profile_of_text o ≡ Some n → dataset_profile n.text ≡ Some n
    text-fits None h = cc
    text-fits (Some t) h = ap dataset_profile (dataset-named t n h).text ∙ h

failures-some : (w : List ℕ) (v : Content) → failures_of w ≡ Some v → contents.Failures ≡ v
failures-some w v h = failures-one (bytes_eq w (codes "FAILURES")) h
  where
    failures-one : (c : Bool) → cond c (Some contents.Failures) None ≡ Some v → contents.Failures ≡ v
    failures-one true h = cc
    failures-one false h = cc

longest-fits : (o : Option ℕ) (k : ℕ) → if_longest o ≡ Some k → is_longest k ≡ true
longest-fits None k h = cc
longest-fits (Some n) k h = longest-one (is_longest n) refl h
  where
    longest-one : (c : Bool) → is_longest n ≡ c → cond c (Some n) None ≡ Some k → is_longest k ≡ true
    longest-one true is h = let same : n ≡ k = cc in subst (λ (m : ℕ). is_longest m ≡ true) same is
    longest-one false is h = cc

pub one-fits : (at : Scope) (k : ValueKind) (p : ℕ) (w : List ℕ) (v : Content) → one at k p w ≡ Ok v → FitsHere at.known k v
one-fits at kinds.Id p w v h =
    let read = bind-ok (or_fault (name_of kinds.Id w) (faults.BadValue p)) (λ x. Ok (contents.Id x)) v h in
    let same : contents.Id read.0 ≡ v = cc in
    along-here at.known kinds.Id (contents.Id read.0) v same (name-again kinds.Id w read.0 (or_fault-ok (name_of kinds.Id w) (faults.BadValue p) read.0 read.1), tt)
one-fits at kinds.Group p w v h =
    let read = bind-ok (or_fault (name_of kinds.Group w) (faults.BadValue p)) (λ x. Ok (contents.Id x)) v h in
    let same : contents.Id read.0 ≡ v = cc in
    along-here at.known kinds.Group (contents.Id read.0) v same (name-again kinds.Group w read.0 (or_fault-ok (name_of kinds.Group w) (faults.BadValue p) read.0 read.1), tt)
one-fits at kinds.Class p w v h =
    let read = bind-ok (or_fault (name_of kinds.Class w) (faults.BadValue p)) (λ x. Ok (contents.Id x)) v h in
    let same : contents.Id read.0 ≡ v = cc in
    along-here at.known kinds.Class (contents.Id read.0) v same (name-again kinds.Class w read.0 (or_fault-ok (name_of kinds.Class w) (faults.BadValue p) read.0 read.1), tt)
one-fits at kinds.Authority p w v h =
    let read = bind-ok (or_fault (authority_of (map upper w)) (faults.BadValue p)) (λ a. Ok (contents.Authority a)) v h in
    let same : contents.Authority read.0 ≡ v = cc in
    along-here at.known kinds.Authority (contents.Authority read.0) v same (tt, tt)
one-fits at kinds.Name p w v h =
    let read = bind-ok (or_fault (name_text w) (faults.BadValue p)) (λ t. Ok (contents.Name t)) v h in
    let same : contents.Name read.0 ≡ v = cc in
    along-here at.known kinds.Name (contents.Name read.0) v same (name_text-some w read.0 (or_fault-ok (name_text w) (faults.BadValue p) read.0 read.1), tt)
one-fits at kinds.Level p w v h =
    let read = bind-ok (or_fault (level_of (map upper w)) (faults.BadValue p)) (λ l. Ok (contents.Level l)) v h in
    let same : contents.Level read.0 ≡ v = cc in
    along-here at.known kinds.Level (contents.Level read.0) v same (tt, tt)
one-fits at kinds.Reset p w v h =
    let read = bind-ok (or_fault (reset_of (map upper w)) (faults.BadValue p)) (λ r. Ok (contents.Reset r)) v h in
    let same : contents.Reset read.0 ≡ v = cc in
    along-here at.known kinds.Reset (contents.Reset read.0) v same (tt, tt)
one-fits at kinds.DataSetProfile p w v h =
    let read = bind-ok (or_fault (dataset_named at.issuer w) (faults.BadValue p)) (λ n. Ok (contents.Profile n)) v h in
    let same : contents.Profile read.0 ≡ v = cc in
    along-here at.known kinds.DataSetProfile (contents.Profile read.0) v same (dataset-fits at.issuer w read.0 (or_fault-ok (dataset_named at.issuer w) (faults.BadValue p) read.0 read.1), tt)
one-fits at kinds.ClassProfile p w v h =
    let read = bind-ok (or_fault (class_profile at.known.class (map upper w)) (faults.BadValue p)) (λ n. Ok (contents.Profile n)) v h in
    let same : contents.Profile read.0 ≡ v = cc in
    let named = or_fault-ok (class_profile at.known.class (map upper w)) (faults.BadValue p) read.0 read.1 in
    along-here at.known kinds.ClassProfile (contents.Profile read.0) v same (tt, ap (class_profile at.known.class) (class-named at.known.class (map upper w) read.0 named).text ∙ named)
one-fits at kinds.Failures p w v h =
    along-here at.known kinds.Failures contents.Failures v (failures-some (map upper w) v (or_fault-ok (failures_of (map upper w)) (faults.BadValue p) v h)) (tt, tt)
one-fits at kinds.Length p w v h =
    let read = bind-ok (or_fault (if_longest (number_of w)) (faults.BadValue p)) (λ n. Ok (contents.Length n)) v h in
    let same : contents.Length read.0 ≡ v = cc in
    along-here at.known kinds.Length (contents.Length read.0) v same (longest-fits (number_of w) read.0 (or_fault-ok (if_longest (number_of w)) (faults.BadValue p) read.0 read.1), tt)
one-fits at kinds.Truth p w v h =
    let read = bind-ok (or_fault (truth_of (map upper w)) (faults.BadValue p)) (λ b. Ok (contents.Truth b)) v h in
    let same : contents.Truth read.0 ≡ v = cc in
    along-here at.known kinds.Truth (contents.Truth read.0) v same (tt, tt)
one-fits at kinds.ClassNames p w v h =
    let read = bind-ok (or_fault (class_names_of (map upper w)) (faults.BadValue p)) (λ n. Ok (contents.ClassNames n)) v h in
    let same : contents.ClassNames read.0 ≡ v = cc in
    along-here at.known kinds.ClassNames (contents.ClassNames read.0) v same (tt, tt)
one-fits at kinds.LogOptions p w v h = cc
one-fits at kinds.Flag p w v h = cc
one-fits at kinds.Ids p w v h = cc
one-fits at kinds.Classes p w v h = cc
one-fits at kinds.Audit p w v h = cc
one-fits at kinds.AnyProfile p w v h = cc
one-fits at kinds.Whos p w v h = cc
one-fits at kinds.When p w v h = cc
one-fits at kinds.AddedMembers p w v h = cc
one-fits at kinds.DroppedMembers p w v h = cc
one-fits at kinds.Generic p w v h = cc

single-fits : (at : Scope) (k : ValueKind) (p : ℕ) (is : List ValuedWord) (v : Content) → single at k p is ≡ Ok v → FitsHere at.known k v
single-fits at k p is v h =
    let word = bind-ok (held (quotes_of k) p is) (λ h. one at k h.0 h.1 >>= λ v. unless_stray h.2 v) v h in
    let read = bind-ok (one at k word.0.0 word.0.1) (λ v. unless_stray word.0.2 v) v word.2 in
    along-here at.known k read.0 v (unless_stray-ok word.0.2 read.0 v read.2) (one-fits at k word.0.0 word.0.1 read.0 read.1)

several-fits : (k : ValueKind) (p : ℕ) (is : List ValuedWord) (v : Content) → several k p is ≡ Ok v → (xs : List (List ℕ)) × (contents.Ids xs ≡ v) × IsNonEmpty xs × AreNames k xs
several-fits k p is v h =
    let list = bind-ok (some_names k p is) (λ xs. Ok (contents.Ids xs)) v h in
    let same : contents.Ids list.0 ≡ v = cc in
    let fit = some_names-fit k p is list.0 list.1 in
    (list.0, same, fit.0, fit.1)

-- users and groups, and a port of entry
named-of : (xs : List (List ℕ)) → AreNames kinds.Ids xs → AreNamed (map Named xs)
named-of [] h = tt
named-of (x ∷ xs) h = (h.0, named-of xs h.1)

whos-of : (xs : List (List ℕ)) → IsNonEmpty xs → AreNames kinds.Ids xs → AreWhos (map Named xs)
whos-of [] some h = absurd some
whos-of (x ∷ xs) some h = (h.0, named-of xs h.1)

star-fit : (c : Bool) (i : ValuedWord) (is : List ValuedWord) (ws : List Who) → star_or c i is ≡ Ok ws → AreWhos ws
star-fit true i is ws h = subst (λ (us : List Who). AreWhos us) (unless_stray-ok (stray Ignored is) (Star ∷ []) ws h) tt
star-fit false i is ws h =
    let read = bind-ok (names kinds.Ids [] (i ∷ is)) (λ xs. Ok (map Named xs)) ws h in
    let fit = some_names-fit kinds.Ids 0 (i ∷ is) read.0 read.1 in
    let same : map Named read.0 ≡ ws = cc in
    subst (λ (us : List Who). AreWhos us) same (whos-of read.0 fit.0 fit.1)

whos-fit : (p : ℕ) (is : List ValuedWord) (ws : List Who) → whos p is ≡ Ok ws → AreWhos ws
whos-fit p [] ws h = cc
whos-fit p (i ∷ is) ws h =
    let word = bind-ok (word_of Ignored i) (λ w. star_or (bytes_eq w.1 (codes "*")) i is) ws h in
    star-fit (bytes_eq word.0.1 (codes "*")) i is ws word.2

port_name-fits : (p : ℕ) (is : List ValuedWord) (x : List ℕ) → port_name p is ≡ Ok x → name_of kinds.Id x ≡ Some x
port_name-fits p is x h =
    let word = bind-ok (held Ignored p is) (λ h. or_fault (result_ok (id_of (map upper h.1))) (faults.BadValue h.0) >>= λ x. unless_stray h.2 x) x h in
    let read = bind-ok (or_fault (result_ok (id_of (map upper word.0.1))) (faults.BadValue word.0.0)) (λ x. unless_stray word.0.2 x) x word.2 in
    let same : read.0 ≡ x = unless_stray-ok word.0.2 read.0 x read.2 in
    let named : name_of kinds.Id word.0.1 ≡ Some read.0 = or_fault-ok (result_ok (id_of (map upper word.0.1))) (faults.BadValue word.0.0) read.0 read.1 in
    subst (λ (y : List ℕ). name_of kinds.Id y ≡ Some y) same (name-again kinds.Id word.0.1 read.0 named)

port_of-fits : (i : ValuedWord) (c : Condition) → port_of i ≡ Ok c → name_of kinds.Id c.name ≡ Some c.name
port_of-fits (Valued p w t) c h =
    let word = bind-ok (clean Ignored p w) (λ w. or_fault (port_class_of (map upper w)) (faults.BadValue p) >>= λ k. port_name p (valued_words (tokens t)) >>= λ x. Ok (record { class = k; name = x })) c h in
    let class = bind-ok (or_fault (port_class_of (map upper word.0)) (faults.BadValue p)) (λ k. port_name p (valued_words (tokens t)) >>= λ x. Ok (record { class = k; name = x })) c word.2 in
    let name = bind-ok (port_name p (valued_words (tokens t))) (λ x. Ok (record { class = class.0; name = x })) c class.2 in
    let made : Condition = record { class = class.0; name = name.0 } in
    let same : made ≡ c = cc in
    subst (λ (d : Condition). name_of kinds.Id d.name ≡ Some d.name) same (port_name-fits p (valued_words (tokens t)) name.0 name.1)
port_of-fits (Alone p w) c h = cc
port_of-fits (Unclosed p w place) c h = cc
port_of-fits (Parenthesis p) c h = cc

port-fits : (p : ℕ) (is : List ValuedWord) (c : Condition) → port p is ≡ Ok c → name_of kinds.Id c.name ≡ Some c.name
port-fits p [] c h = cc
port-fits p (i ∷ is) c h =
    let read = bind-ok (port_of i) (λ c. unless_stray (stray Ignored is) c) c h in
    subst (λ (d : Condition). name_of kinds.Id d.name ≡ Some d.name) (unless_stray-ok (stray Ignored is) read.0 c read.2) (port_of-fits i read.0 read.1)

pub value-fits : (at : Scope) (k : ValueKind) (p : ℕ) (is : List ValuedWord) (v : Content) → value at k p is ≡ Ok v → FitsHere at.known k v
value-fits at kinds.Ids p is v h = let list = several-fits kinds.Ids p is v h in along-here at.known kinds.Ids (contents.Ids list.0) v list.1 ((list.2, list.3), tt)
value-fits at kinds.Classes p is v h = let list = several-fits kinds.Classes p is v h in along-here at.known kinds.Classes (contents.Ids list.0) v list.1 ((list.2, list.3), tt)
value-fits at kinds.Audit p is v h =
    let read = bind-ok (audit_rule p is) (λ rule. Ok (contents.Audit rule)) v h in
    let same : contents.Audit read.0 ≡ v = cc in
    along-here at.known kinds.Audit (contents.Audit read.0) v same (audit-fits p is read.0 read.1, tt)
value-fits at kinds.Whos p is v h =
    let read = bind-ok (whos p is) (λ ws. Ok (contents.Whos ws)) v h in
    let same : contents.Whos read.0 ≡ v = cc in
    along-here at.known kinds.Whos (contents.Whos read.0) v same (whos-fit p is read.0 read.1, tt)
value-fits at kinds.When p is v h =
    let read = bind-ok (port p is) (λ c. Ok (contents.When c)) v h in
    let same : contents.When read.0 ≡ v = cc in
    along-here at.known kinds.When (contents.When read.0) v same (port-fits p is read.0 read.1, tt)
value-fits at kinds.AddedMembers p is v h =
    let read = bind-ok (added (member_form at.known.class at.known.profile) p is) (λ ms. Ok (contents.Members ms)) v h in
    let same : contents.Members read.0 ≡ v = cc in
    along-here at.known kinds.AddedMembers (contents.Members read.0) v same (added-fit (member_form at.known.class at.known.profile) p is read.0 read.1)
value-fits at kinds.DroppedMembers p is v h =
    let read = bind-ok (dropped (member_form at.known.class at.known.profile) p is) (λ ns. Ok (contents.MemberNames ns)) v h in
    let same : contents.MemberNames read.0 ≡ v = cc in
    along-here at.known kinds.DroppedMembers (contents.MemberNames read.0) v same (dropped-fit (member_form at.known.class at.known.profile) p is read.0 read.1)
value-fits at kinds.Id p is v h = single-fits at kinds.Id p is v h
value-fits at kinds.Group p is v h = single-fits at kinds.Group p is v h
value-fits at kinds.Class p is v h = single-fits at kinds.Class p is v h
value-fits at kinds.Authority p is v h = single-fits at kinds.Authority p is v h
value-fits at kinds.Name p is v h = single-fits at kinds.Name p is v h
value-fits at kinds.Level p is v h = single-fits at kinds.Level p is v h
value-fits at kinds.Reset p is v h = single-fits at kinds.Reset p is v h
value-fits at kinds.Failures p is v h = single-fits at kinds.Failures p is v h
value-fits at kinds.LogOptions p is v h =
    let read = bind-ok (log_clauses p is) (λ cs. Ok (contents.LogOptions cs)) v h in
    let same : contents.LogOptions read.0 ≡ v = cc in
    along-here at.known kinds.LogOptions (contents.LogOptions read.0) v same (log_clauses-fit p is read.0 read.1, tt)
value-fits at kinds.Length p is v h = single-fits at kinds.Length p is v h
value-fits at kinds.Truth p is v h = single-fits at kinds.Truth p is v h
value-fits at kinds.ClassNames p is v h = single-fits at kinds.ClassNames p is v h
value-fits at kinds.Flag p is v h = cc
value-fits at kinds.DataSetProfile p is v h = cc
value-fits at kinds.ClassProfile p is v h = cc
value-fits at kinds.AnyProfile p is v h = cc
value-fits at kinds.Generic p is v h = cc
