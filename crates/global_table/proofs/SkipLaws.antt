-- A member whose text begins otherwise than a name doesn't cover it.
use Rattle.std.proofs.Common.{◌≡◌, ℕ, ◌-◌, ◌≤◌, Bool, true, false, cond, ◌&&◌, ◌||◌, eqb, List, [], ◌∷◌, map, length, drop, Option, Some, None, Result, Ok, Err, refl, ap, sym, ◌∙◌, arith}
use Rattle.std.specs.Prelude.{option_map, IfSome}
use Rattle.std.specs.List.{join_with_byte, onto_first}
use Rattle.std.specs.Result.{result_ok}
use Rattle.std.proofs.lemmas.Bool.Decides.{nat_tests}
use Rattle.std.proofs.lemmas.List.{drop_all, length-drop}
use Rattle.std.proofs.lemmas.List.Splits.{join_with_byte-slice_split}
use Rattle.access_levels.specs.declared.levels.Level.{Level}
use Rattle.generic_names.specs.declared.kind.NameKind.{NameKind}
use Rattle.generic_names.specs.declared.kind.NameKind.TheVariants.{DataSet, General}
use Rattle.generic_names.specs.declared.fault.NameFault.{NameFault}
use Rattle.generic_names.specs.Spelled.{Spelled, qualifiers, is_empty}
use Rattle.generic_names.specs.Covers.{is_double, is_open, matches, begins, first_and_rest, covers_all, covers}
use Rattle.generic_names.specs.Faults.{pattern_of}
use Rattle.generic_names.specs.Resolve.{stands_for, replaced, resolve}
use Rattle.generic_names.proofs.CoverLaws.{is_empty-length}
use Rattle.generic_names.proofs.FirstLaws.{front, last, front-take, last-get, equal_byte}
use Rattle.generic_names.proofs.Lawful.{reads_back}
use Rattle.global_table.specs.declared.table.Resolved.{Resolved}
use Rattle.racf_profiles.specs.declared.profiles.Member.TheVariants.{Access}
use Rattle.racf_profiles.specs.LawfulProfiles.{is_of_kind}
use Rattle.global_table.specs.Grants.{resolved, covers_name}
use Rattle.global_table.specs.Steps.{stands_for_others, may_begin}

-- ---- the qualifiers of a text, from its first byte on
-- there is a first one
record Begun (text : List ℕ) : Type 0 where
  pub first : List ℕ
  pub others : List (List ℕ)
  pub is : qualifiers text ≡ first ∷ others

begun : (text : List ℕ) → Begun text
begun [] = record { first = []; others = []; is = refl }
begun (a ∷ text) = settled (eqb a 46) refl (begun text)
  where
    settled : (t : Bool) → eqb a 46 ≡ t → Begun text → Begun (a ∷ text)
    settled true is rest = record { first = []; others = qualifiers text; is = ap (λ (t : Bool). cond t ([] ∷ qualifiers text) (onto_first a (qualifiers text))) is }
    settled false is rest =
        record {
          first = a ∷ rest.first;
          others = rest.others;
          is = ap (λ (t : Bool). cond t ([] ∷ qualifiers text) (onto_first a (qualifiers text))) is ∙ ap (λ (qs : List (List ℕ)). onto_first a qs) rest.is;
        }

at-period : (a : ℕ) (text : List ℕ) → eqb a 46 ≡ true → qualifiers (a ∷ text) ≡ [] ∷ qualifiers text
at-period a text is = ap (λ (t : Bool). cond t ([] ∷ qualifiers text) (onto_first a (qualifiers text))) is

at-other : (a : ℕ) (text q : List ℕ) (qs : List (List ℕ)) → eqb a 46 ≡ false → qualifiers text ≡ q ∷ qs → qualifiers (a ∷ text) ≡ (a ∷ q) ∷ qs
at-other a text q qs is split = ap (λ (t : Bool). cond t ([] ∷ qualifiers text) (onto_first a (qualifiers text))) is ∙ ap (λ (ps : List (List ℕ)). onto_first a ps) split

-- ---- what it tells that two texts begin apart
own-byte : (a : ℕ) (rest : Bool) → (stands_for_others a || rest) ≡ false → stands_for_others a ≡ false
own-byte a rest h = settled (stands_for_others a) h
  where
    settled : (t : Bool) → (t || rest) ≡ false → t ≡ false
    settled true e = e
    settled false e = refl

behind-byte : (a : ℕ) (same rest : Bool) → same ≡ true → (stands_for_others a || (same && rest)) ≡ false → rest ≡ false
behind-byte a same rest is h = settled (stands_for_others a) same is h
  where
    settled : (s t : Bool) → t ≡ true → (s || (t && rest)) ≡ false → rest ≡ false
    settled true t e k = absurd (cc k)
    settled false true e k = k
    settled false false e k = absurd (cc e)

no-percent : (a : ℕ) → stands_for_others a ≡ false → eqb a 37 ≡ false
no-percent a own = grind (arith, nat_tests)

no-asterisk : (a : ℕ) → stands_for_others a ≡ false → eqb a 42 ≡ false
no-asterisk a own = grind (arith, nat_tests)

no-ampersand : (a : ℕ) → stands_for_others a ≡ false → eqb a 38 ≡ false
no-ampersand a own = grind (arith, nat_tests)

own-first : (a : ℕ) (text name : List ℕ) → may_begin (a ∷ text) name ≡ false → stands_for_others a ≡ false
own-first a text [] h = own-byte a (eqb a 46) h
own-first a text (b ∷ name) h = own-byte a (eqb a b && may_begin text name) h

-- ---- a pattern whose text begins otherwise than the name
module _ (kind : NameKind) where
  empty-shut : (last : Bool) → is_open kind last [] ≡ false
  empty-shut last = settled kind last
    where
      settled : (k : NameKind) (l : Bool) → is_open k l [] ≡ false
      settled DataSet l = refl
      settled General true = refl
      settled General false = refl

  -- a qualifier that isn't open matches one of the name's, and those behind it cover the rest
  abbrev by_one : List ℕ → List (List ℕ) → List (List ℕ) → Bool
  by_one q qs names = first_and_rest (λ n. matches q n) (λ rest. covers_all kind qs rest) names

  -- what is left of a pattern, inside its first qualifier, covers what is left of the name
  abbrev covers_on : List (List ℕ) → List ℕ → Bool
  covers_on [] name = false
  covers_on (q ∷ qs) name = cond (is_open kind (is_empty qs) q) (begins (front q) name) (by_one q qs (qualifiers name))

  -- at the beginning of a qualifier it is the same, but for `**`
  covers-on : (q : List ℕ) (qs : List (List ℕ)) (name : List ℕ) → is_double q ≡ false → covers_all kind (q ∷ qs) (qualifiers name) ≡ covers_on (q ∷ qs) name
  covers-on q qs name single =
      let names = begun name in
      let some : is_empty (qualifiers name) ≡ false = ap (λ (ns : List (List ℕ)). is_empty ns) names.is in
      rw (single, some, front-take q, join_with_byte-slice_split 46 name) refl

  -- in front of a qualifier stands a byte of its own
  module _ (a : ℕ) (own : stands_for_others a ≡ false) where
    open-behind : (last : Bool) (q : List ℕ) → is_open kind last (a ∷ q) ≡ is_open kind last q
    open-behind last q = settled kind last q
      where
        settled : (k : NameKind) (l : Bool) (p : List ℕ) → is_open k l (a ∷ p) ≡ is_open k l p
        settled DataSet l p = refl
        settled General false p = refl
        settled General true [] = no-asterisk a own
        settled General true (c ∷ p) = ap (λ (b : ℕ). eqb b 42) (last-get (a ∷ c ∷ p) ∙ sym (last-get (c ∷ p)))

    front-behind : (last : Bool) (q : List ℕ) → is_open kind last q ≡ true → front (a ∷ q) ≡ a ∷ front q
    front-behind last [] is = let shut = empty-shut last in absurd (cc (is, shut))
    front-behind last (c ∷ q) is = refl

    unmatched : (q : List ℕ) → matches (a ∷ q) [] ≡ false
    unmatched q = ap (λ (t : Bool). t && is_empty q) (no-asterisk a own)

    matches-on : (q n : List ℕ) (b : ℕ) → matches (a ∷ q) (b ∷ n) ≡ (eqb a b && matches q n)
    matches-on q n b = rw (no-asterisk a own, no-percent a own) refl

    begins-on : (q n : List ℕ) (b : ℕ) → begins (a ∷ q) (b ∷ n) ≡ (eqb a b && begins q n)
    begins-on q n b = rw (no-percent a own) refl

    module _ (q : List ℕ) (qs : List (List ℕ)) where
      -- whether the qualifier is open, or not
      by_opening : (name : List ℕ) (v : Bool) → (is_open kind (is_empty qs) q ≡ true → begins (a ∷ front q) name ≡ v) → (is_open kind (is_empty qs) q ≡ false → by_one (a ∷ q) qs (qualifiers name) ≡ v) → covers_on ((a ∷ q) ∷ qs) name ≡ v
      by_opening name v opened shut =
          ap (λ (t : Bool). cond t (begins (front (a ∷ q)) name) (by_one (a ∷ q) qs (qualifiers name))) (open-behind (is_empty qs) q)
          ∙ settled (is_open kind (is_empty qs) q) refl
        where
          settled : (t : Bool) → is_open kind (is_empty qs) q ≡ t → cond t (begins (front (a ∷ q)) name) (by_one (a ∷ q) qs (qualifiers name)) ≡ v
          settled true is = ap (λ (f : List ℕ). begins f name) (front-behind (is_empty qs) q is) ∙ opened is
          settled false is = shut is

      -- the name is at its end
      at-end : covers_on ((a ∷ q) ∷ qs) [] ≡ false
      at-end = by_opening [] false (λ _. refl) (λ _. ap (λ (t : Bool). t && covers_all kind qs []) (unmatched q))

      -- it goes on with another byte
      otherwise : (b : ℕ) (name : List ℕ) → eqb a b ≡ false → covers_on ((a ∷ q) ∷ qs) (b ∷ name) ≡ false
      otherwise b name other = by_opening (b ∷ name) false
          (λ _. begins-on (front q) name b ∙ ap (λ (t : Bool). t && begins (front q) name) other)
          (λ _. settled (eqb b 46) refl)
        where
          settled : (t : Bool) → eqb b 46 ≡ t → by_one (a ∷ q) qs (qualifiers (b ∷ name)) ≡ false
          settled true is =
              ap (λ (ns : List (List ℕ)). by_one (a ∷ q) qs ns) (at-period b name is)
              ∙ ap (λ (t : Bool). t && covers_all kind qs (qualifiers name)) (unmatched q)
          settled false is =
              let rest = begun name in
              ap (λ (ns : List (List ℕ)). by_one (a ∷ q) qs ns) (at-other b name rest.first rest.others is rest.is)
              ∙ ap (λ (t : Bool). t && covers_all kind qs rest.others) (matches-on q rest.first b ∙ ap (λ (t : Bool). t && matches q rest.first) other)

      -- it goes on with the same
      likewise : (b : ℕ) (name : List ℕ) → eqb a b ≡ true → eqb b 46 ≡ false → covers_on ((a ∷ q) ∷ qs) (b ∷ name) ≡ covers_on (q ∷ qs) name
      likewise b name same within = by_opening (b ∷ name) (covers_on (q ∷ qs) name)
          (λ opened.
          begins-on (front q) name b
          ∙ ap (λ (t : Bool). t && begins (front q) name) same
          ∙ sym (ap (λ (t : Bool). cond t (begins (front q) name) (by_one q qs (qualifiers name))) opened))
          (λ shut.
          let rest = begun name in
          ap (λ (ns : List (List ℕ)). by_one (a ∷ q) qs ns) (at-other b name rest.first rest.others within rest.is)
          ∙ ap (λ (t : Bool). t && covers_all kind qs rest.others) (matches-on q rest.first b ∙ ap (λ (t : Bool). t && matches q rest.first) same)
          ∙ sym (ap (λ (ns : List (List ℕ)). by_one q qs ns) rest.is)
          ∙ sym (ap (λ (t : Bool). cond t (begins (front q) name) (by_one q qs (qualifiers name))) shut))

  -- nothing is left of a qualifier
  at-last : (qs : List (List ℕ)) (name : List ℕ) → covers_on ([] ∷ qs) name ≡ by_one [] qs (qualifiers name)
  at-last qs name = ap (λ (t : Bool). cond t (begins [] name) (by_one [] qs (qualifiers name))) (empty-shut (is_empty qs))

  last-ends : (qs : List (List ℕ)) (b : ℕ) (name : List ℕ) → eqb b 46 ≡ true → covers_on ([] ∷ qs) (b ∷ name) ≡ covers_all kind qs (qualifiers name)
  last-ends qs b name ends = at-last qs (b ∷ name) ∙ ap (λ (ns : List (List ℕ)). by_one [] qs ns) (at-period b name ends)

  last-within : (qs : List (List ℕ)) (b : ℕ) (name : List ℕ) → eqb b 46 ≡ false → covers_on ([] ∷ qs) (b ∷ name) ≡ false
  last-within qs b name within =
      let rest = begun name in
      at-last qs (b ∷ name) ∙ ap (λ (ns : List (List ℕ)). by_one [] qs ns) (at-other b name rest.first rest.others within rest.is)

  -- A pattern that doesn't cover a name inside a qualifier doesn't cover it where one begins.
  afresh : (pattern name : List ℕ) → may_begin pattern name ≡ false → covers_on (qualifiers pattern) name ≡ false → covers_all kind (qualifiers pattern) (qualifiers name) ≡ false
  afresh [] name apart on = covers-on [] [] name refl ∙ on
  afresh (a ∷ pattern) name apart on = settled (begun pattern) (eqb a 46) refl
    where
      by_qualifiers : (q : List ℕ) (qs : List (List ℕ)) → qualifiers (a ∷ pattern) ≡ q ∷ qs → is_double q ≡ false → covers_all kind (qualifiers (a ∷ pattern)) (qualifiers name) ≡ false
      by_qualifiers q qs split single =
          ap (λ (ps : List (List ℕ)). covers_all kind ps (qualifiers name)) split
          ∙ covers-on q qs name single
          ∙ sym (ap (λ (ps : List (List ℕ)). covers_on ps name) split) ∙ on

      settled : Begun pattern → (t : Bool) → eqb a 46 ≡ t → covers_all kind (qualifiers (a ∷ pattern)) (qualifiers name) ≡ false
      settled rest true is = by_qualifiers [] (qualifiers pattern) (at-period a pattern is) refl
      settled rest false is =
          by_qualifiers (a ∷ rest.first) rest.others (at-other a pattern rest.first rest.others is rest.is)
          (ap (λ (t : Bool). t && is_double (42 ∷ rest.first)) (no-asterisk a (own-first a pattern name apart)))

  inside : (pattern name : List ℕ) → may_begin pattern name ≡ false → covers_on (qualifiers pattern) name ≡ false
  inside [] [] apart = absurd (cc apart)
  inside [] (b ∷ name) apart = settled (eqb b 46) refl
    where
      settled : (t : Bool) → eqb b 46 ≡ t → covers_on ([] ∷ []) (b ∷ name) ≡ false
      settled true ends = last-ends [] b name ends ∙ ap (λ (ns : List (List ℕ)). is_empty ns) (begun name).is
      settled false within = last-within [] b name within
  inside (a ∷ pattern) [] apart =
      let rest = begun pattern in
      let no_period : eqb a 46 ≡ false = behind-byte a true (eqb a 46) refl apart in
      ap (λ (qs : List (List ℕ)). covers_on qs []) (at-other a pattern rest.first rest.others no_period rest.is) ∙ at-end a (own-first a pattern [] apart) rest.first rest.others
  inside (a ∷ pattern) (b ∷ name) apart = settled (λ behind. inside pattern name behind) (eqb a 46) (eqb b 46) (eqb a b) refl refl refl
    where
      settled : (may_begin pattern name ≡ false → covers_on (qualifiers pattern) name ≡ false) → (s t u : Bool) → eqb a 46 ≡ s → eqb b 46 ≡ t → eqb a b ≡ u → covers_on (qualifiers (a ∷ pattern)) (b ∷ name) ≡ false
      settled again true true u period ends _ =
          let same : eqb a b ≡ true = grind (arith, nat_tests) in
          let behind : may_begin pattern name ≡ false = behind-byte a (eqb a b) (may_begin pattern name) same apart in
          ap (λ (qs : List (List ℕ)). covers_on qs (b ∷ name)) (at-period a pattern period)
          ∙ last-ends (qualifiers pattern) b name ends
          ∙ afresh pattern name behind (again behind)
      settled again true false u period within _ =
          ap (λ (qs : List (List ℕ)). covers_on qs (b ∷ name)) (at-period a pattern period) ∙ last-within (qualifiers pattern) b name within
      settled again false t true no_period _ same =
          let rest = begun pattern in
          let within : eqb b 46 ≡ false = grind (arith, nat_tests) in
          ap (λ (qs : List (List ℕ)). covers_on qs (b ∷ name)) (at-other a pattern rest.first rest.others no_period rest.is)
          ∙ likewise a (own-first a pattern (b ∷ name) apart) rest.first rest.others b name same within
          ∙ sym (ap (λ (qs : List (List ℕ)). covers_on qs name) rest.is)
          ∙ again (behind-byte a (eqb a b) (may_begin pattern name) same apart)
      settled again false t false no_period _ other =
          let rest = begun pattern in
          ap (λ (qs : List (List ℕ)). covers_on qs (b ∷ name)) (at-other a pattern rest.first rest.others no_period rest.is)
          ∙ otherwise a (own-first a pattern (b ∷ name) apart) rest.first rest.others b name other

apart-uncovered : (kind : NameKind) (pattern name : List ℕ) → may_begin pattern name ≡ false → covers_all kind (qualifiers pattern) (qualifiers name) ≡ false
apart-uncovered kind pattern name apart = afresh kind pattern name apart (inside kind pattern name apart)

-- ---- a member's text with its symbols replaced
module _ (user group : List ℕ) where
  abbrev stand_in : List ℕ → List ℕ
  stand_in = stands_for user group

  -- what is left of a member's text, inside its first qualifier, which is none of the symbols
  abbrev replaced_on : List (List ℕ) → List ℕ
  replaced_on [] = []
  replaced_on (q ∷ qs) = join_with_byte 46 (q ∷ map stand_in qs)

  join-behind : (a : ℕ) (q : List ℕ) (qs : List (List ℕ)) → join_with_byte 46 ((a ∷ q) ∷ qs) ≡ a ∷ join_with_byte 46 (q ∷ qs)
  join-behind a q [] = refl
  join-behind a q (r ∷ qs) = refl

  no-symbol : (a : ℕ) (q : List ℕ) → eqb a 38 ≡ false → stand_in (a ∷ q) ≡ a ∷ q
  no-symbol a q other = rw other refl

  -- a qualifier that begins where the two texts are still alike is no symbol
  replaced-afresh : (member name : List ℕ) → may_begin member name ≡ false → replaced user group member ≡ replaced_on (qualifiers member)
  replaced-afresh [] name apart = refl
  replaced-afresh (a ∷ member) name apart = settled (begun member) (eqb a 46) refl
    where
      settled : Begun member → (t : Bool) → eqb a 46 ≡ t → replaced user group (a ∷ member) ≡ replaced_on (qualifiers (a ∷ member))
      settled rest true is = ap (λ (qs : List (List ℕ)). join_with_byte 46 (map stand_in qs)) (at-period a member is) ∙ sym (ap (λ (qs : List (List ℕ)). replaced_on qs) (at-period a member is))
      settled rest false is =
          let split : qualifiers (a ∷ member) ≡ (a ∷ rest.first) ∷ rest.others = at-other a member rest.first rest.others is rest.is in
          ap (λ (qs : List (List ℕ)). join_with_byte 46 (map stand_in qs)) split
          ∙ ap (λ (q : List ℕ). join_with_byte 46 (q ∷ map stand_in rest.others)) (no-symbol a rest.first (no-ampersand a (own-first a member name apart)))
          ∙ sym (ap (λ (qs : List (List ℕ)). replaced_on qs) split)

  -- with the symbols replaced it begins apart too
  onward : (a b : ℕ) (member other name : List ℕ) → (may_begin member name ≡ false → may_begin other name ≡ false) → may_begin (a ∷ member) (b ∷ name) ≡ false → may_begin (a ∷ other) (b ∷ name) ≡ false
  onward a b member other name on h = settled (stands_for_others a) (eqb a b) h
    where
      settled : (s t : Bool) → (s || (t && may_begin member name)) ≡ false → (s || (t && may_begin other name)) ≡ false
      settled true t k = k
      settled false true k = on k
      settled false false k = refl

  replaced-apart : (member name : List ℕ) → may_begin member name ≡ false → may_begin (replaced_on (qualifiers member)) name ≡ false
  replaced-apart [] name apart = apart
  replaced-apart (a ∷ member) name apart = settled (λ behind h. replaced-apart member behind h) (begun member) (eqb a 46) refl
    where
      -- what stands behind the first byte may differ
      with_rest : (other : List ℕ) → ((behind : List ℕ) → may_begin member behind ≡ false → may_begin other behind ≡ false) → (n : List ℕ) → may_begin (a ∷ member) n ≡ false → may_begin (a ∷ other) n ≡ false
      with_rest other on [] h = h
      with_rest other on (b ∷ n) h = onward a b member other n (on n) h

      settled : ((behind : List ℕ) → may_begin member behind ≡ false → may_begin (replaced_on (qualifiers member)) behind ≡ false) → Begun member → (t : Bool) → eqb a 46 ≡ t → may_begin (replaced_on (qualifiers (a ∷ member))) name ≡ false
      settled again rest true is =
          let period : a ≡ 46 = equal_byte a 46 is in
          let whole : replaced_on (qualifiers (a ∷ member)) ≡ a ∷ replaced user group member =
          ap (λ (qs : List (List ℕ)). replaced_on qs) (at-period a member is ∙ ap (λ (qs : List (List ℕ)). [] ∷ qs) rest.is)
          ∙ ap (λ (qs : List (List ℕ)). 46 ∷ join_with_byte 46 (map stand_in qs)) (sym rest.is)
          ∙ ap (λ (c : ℕ). c ∷ replaced user group member) (sym period) in
          ap (λ (text : List ℕ). may_begin text name) whole
          ∙ with_rest (replaced user group member) (λ behind h. ap (λ (text : List ℕ). may_begin text behind) (replaced-afresh member behind h) ∙ again behind h) name apart
      settled again rest false is =
          let whole : replaced_on (qualifiers (a ∷ member)) ≡ a ∷ replaced_on (qualifiers member) =
          ap (λ (qs : List (List ℕ)). replaced_on qs) (at-other a member rest.first rest.others is rest.is)
          ∙ join-behind a rest.first (map stand_in rest.others)
          ∙ sym (ap (λ (qs : List (List ℕ)). a ∷ replaced_on qs) rest.is) in
          ap (λ (text : List ℕ). may_begin text name) whole
          ∙ with_rest (replaced_on (qualifiers member)) again name apart

  -- ---- a member that is passed over covers the name for no user
  read-text : (read : Result Spelled NameFault) (pattern : Spelled) → result_ok read ≡ Some pattern → read ≡ Ok pattern
  read-text (Ok other) pattern is = let same : other ≡ pattern = cc is in ap (λ (p : Spelled). Ok p) same
  read-text (Err fault) pattern is = absurd (cc is)

  resolved-uncovered : (member name pattern : Spelled) → may_begin member.text name.text ≡ false → resolve member user group ≡ Some pattern → covers pattern name ≡ false
  resolved-uncovered member name pattern apart is =
      let text = replaced user group member.text in
      let spelled = (reads_back member.kind text pattern (read-text (pattern_of member.kind text) pattern is)).0 in
      let begins_apart : may_begin text name.text ≡ false = ap (λ (t : List ℕ). may_begin t name.text) (replaced-afresh member.text name.text apart) ∙ replaced-apart member.text name.text apart in
      ap (λ (p : Spelled). covers p name) spelled ∙ apart-uncovered member.kind text name.text begins_apart

  pub passed-over : (member name : Spelled) (level : Level) (place : ℕ) → may_begin member.text name.text ≡ false → IfSome (resolved user group place (Access member level)) (λ m. covers_name name m ≡ false)
  passed-over member name level place apart = settled (resolve member user group) refl
    where
      counted : Spelled → Resolved
      counted pattern = record { name = pattern; level = level; place = place }

      settled : (o : Option Spelled) → resolve member user group ≡ o → IfSome (option_map counted o) (λ m. covers_name name m ≡ false)
      settled None is = tt
      settled (Some pattern) is = rw (resolved-uncovered member name pattern apart is) (neither (is_of_kind pattern.kind name.kind))
        where
          neither : (t : Bool) → (t && false) ≡ false
          neither true = refl
          neither false = refl

-- ---- the walk along both texts
pub begins-to-end : (member name : List ℕ) (i : ℕ) → length member ≡ i → i ≤ length name → may_begin (drop i member) (drop i name) ≡ eqb (length member) (length name)
begins-to-end member name i at h =
    let n : length (drop i name) ≡ length name - i = length-drop i name in
    let same : eqb (length name - i) 0 ≡ eqb (length member) (length name) = grind (arith, nat_tests) in
    rw (drop_all i member (omega arith)) (is_empty-length (drop i name) ∙ ap (λ (k : ℕ). eqb k 0) n ∙ same)
