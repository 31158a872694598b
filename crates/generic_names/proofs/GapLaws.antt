-- Where a pattern can't be met by a name any more.
use Rattle.std.proofs.Common.{◌≡◌, ◌≢◌, ℕ, zero, suc, ◌+◌, ◌-◌, ◌<◌, ◌≤◌, Bool, true, false, cond, not, ◌&&◌, ◌||◌, eqb, List, [], ◌∷◌, ◌++◌, map, length, take, get_or, append_assoc, length-append, add-one, refl, ap, sym, ◌∙◌, subst, arith, ⊎_elim, ◌⊎◌, inl, inr}
use Rattle.std.specs.Ordering.{nat_cmp, is_lt}
use Rattle.std.specs.Cmp.Lexicographic.{slice_cmp}
use Rattle.std.specs.List.{join_with_byte, onto_first}
use Rattle.std.proofs.lemmas.List.{take_at}
use Rattle.std.proofs.lemmas.Bool.Decides.{nat_tests}
use Rattle.generic_names.specs.declared.kind.NameKind.{NameKind}
use Rattle.generic_names.specs.declared.kind.NameKind.TheVariants.{DataSet, General}
use Rattle.generic_names.specs.Spelled.{Spelled, qualifiers, is_empty}
use Rattle.generic_names.specs.Covers.{is_double, is_open, matches, begins, some_end, first_and_rest, covers_all}
use Rattle.generic_names.specs.Before.{rank, ranks}
use Rattle.generic_names.specs.Ranked.{ranks_within}
use Rattle.generic_names.specs.Follows.{may_follow}
use Rattle.generic_names.specs.Laws.{IsPattern}
use Rattle.generic_names.proofs.Lawful.{EachByte, EachQualifier, IsPlain, pattern-small}
use Rattle.generic_names.proofs.OrderLaws.{rank-other}
use Rattle.generic_names.specs.Reading.{rest_at}
use Rattle.generic_names.proofs.QualifierLaws.{rest_at-past}
use Rattle.generic_names.proofs.RankLaws.{rest_at-end, rest_at-byte}
use Rattle.generic_names.proofs.CompareLaws.{Between, between}
use Rattle.generic_names.proofs.Bools.{either, both}
use Rattle.generic_names.proofs.FirstLaws.{less_head, same_front, front, front-take, last-get, no-periods, plain-rank, equal_byte, one_byte, no-match, behind-first, no_name, ends_open}

-- a byte of a pattern's qualifier
pub record IsByte (b : ℕ) : Type 0 where
  pub small : b < 256
  pub no_period : b ≢ 46

zip-bytes : (q : List ℕ) → EachByte (λ b. b < 256) q → EachByte (λ b. b ≢ 46) q → EachByte IsByte q
zip-bytes [] low other = tt
zip-bytes (b ∷ q) low other = (record { small = low.0; no_period = other.0 }, zip-bytes q low.1 other.1)

zip-qualifiers : (qs : List (List ℕ)) → EachQualifier (λ b. b < 256) qs → EachQualifier (λ b. b ≢ 46) qs → EachQualifier IsByte qs
zip-qualifiers [] low other = tt
zip-qualifiers (q ∷ qs) low other = (zip-bytes q low.0 other.0, zip-qualifiers qs low.1 other.1)

pub pattern-bytes : (p : Spelled) → IsPattern p → EachQualifier IsByte (qualifiers p.text)
pattern-bytes p h = zip-qualifiers (qualifiers p.text) (pattern-small p h) (no-periods p.text)

-- whether qualifiers, the first of which isn't read as a whole, cover others
abbrev pub covers_within : NameKind → List (List ℕ) → List (List ℕ) → Bool
covers_within kind [] name = false
covers_within kind (p ∷ ps) name =
    cond (is_open kind (is_empty ps) p) (not (is_empty name) && begins (take (length p - 1) p) (join_with_byte 46 name)) (first_and_rest (λ q. matches p q) (λ rest. covers_all kind ps rest) name)

-- What is left of a pattern, whose ranks these are, covers what is left of a name.
pub record Reached (kind : NameKind) (begun : Bool) (left_ranks : List ℕ) (name : List (List ℕ)) : Type 0 where
  pub left : List (List ℕ)
  pub bytes : EachQualifier IsByte left
  pub ranked : cond begun (ranks left) (ranks_within left) ≡ left_ranks
  pub covered : cond begun (covers_all kind left name) (covers_within kind left name) ≡ true

-- the same, below a qualifier that isn't `**`
pub record Within (kind : NameKind) (left_ranks : List ℕ) (name : List (List ℕ)) : Type 0 where
  pub first : List ℕ
  pub rest : List (List ℕ)
  pub bytes : EachQualifier IsByte (first ∷ rest)
  pub ranked : map rank first ++ 257 ∷ ranks rest ≡ left_ranks
  pub covered : covers_within kind (first ∷ rest) name ≡ true

pub within : (kind : NameKind) (begun : Bool) (c : ℕ) (cs : List ℕ) (name : List (List ℕ)) → c ≢ 259 → c ≢ 260 → Reached kind begun (c ∷ cs) name → Within kind (c ∷ cs) name
within kind begun c cs name no_end no_double w = settled begun w.left w.bytes w.ranked w.covered
  where
    whole : (p : List ℕ) (ps : List (List ℕ)) (t : Bool) → is_double p ≡ t → EachQualifier IsByte (p ∷ ps) → cond t (260 ∷ ranks ps) (map rank p ++ 257 ∷ ranks ps) ≡ c ∷ cs → covers_all kind (p ∷ ps) name ≡ true → Within kind (c ∷ cs) name
    whole p ps true is bytes ranked covered = absurd (let head : ◌≡◌ {A = ℕ} 260 c = (cc) in no_double (sym head))
    whole p ps false is bytes ranked covered = record {
      first = p;
      rest = ps;
      bytes = bytes;
      ranked = ranked;
      covered = sym (ap (λ (u : Bool). cond u (some_end (λ end. covers_all kind ps end) name) (covers_within kind (p ∷ ps) name)) is) ∙ covered;
    }

    settled : (t : Bool) (ps : List (List ℕ)) → EachQualifier IsByte ps → cond t (ranks ps) (ranks_within ps) ≡ c ∷ cs → cond t (covers_all kind ps name) (covers_within kind ps name) ≡ true → Within kind (c ∷ cs) name
    settled true [] bytes ranked covered = absurd (let head : ◌≡◌ {A = ℕ} 259 c = (cc) in no_end (sym head))
    settled false [] bytes ranked covered = absurd (cc (covered))
    settled true (p ∷ ps) bytes ranked covered = whole p ps (is_double p) refl bytes ranked covered
    settled false (p ∷ ps) bytes ranked covered = record { first = p; rest = ps; bytes = bytes; ranked = ranked; covered = covered }

-- which byte a rank comes from
rank-star : (a : ℕ) → a < 256 → eqb a 42 ≡ true → rank a ≡ 258
rank-star a low star = let same : a ≡ 42 = equal_byte a 42 star in rw same refl

rank-percent : (a : ℕ) → eqb a 37 ≡ true → rank a ≡ 256
rank-percent a any = let same : a ≡ 37 = equal_byte a 37 any in rw same refl

no-star : (a c : ℕ) → a < 256 → rank a ≡ c → c < 257 → eqb a 42 ≡ false
no-star a c low is below = settled (eqb a 42) refl
  where
    settled : (t : Bool) → eqb a 42 ≡ t → t ≡ false
    settled false is_star = refl
    settled true is_star = absurd (let star : rank a ≡ 258 = rank-star a low is_star in omega arith)

-- a byte of a pattern may stand for a byte of a name
fits-follow : (begun : Bool) (a b : ℕ) (n : List ℕ) (ns : List (List ℕ)) → IsPlain b → ((a ≡ 37) ⊎ (a ≡ b)) → may_follow begun ((b ∷ n) ∷ ns) (rank a) ≡ true
fits-follow begun a b n ns plain fits = ⊎_elim
    (λ (any : a ≡ 37). rw any (or_middle (eqb 256 b) (begun && eqb 256 260)))
    (λ (one : a ≡ b). let value : rank b ≡ b = plain-rank b plain in let same : eqb b b ≡ true = grind (arith, nat_tests) in rw (one, value, same) refl)
    fits
  where
    or_middle : (s t : Bool) → (s || true || false || t) ≡ true
    or_middle true t = refl
    or_middle false t = refl

star-follow : (begun : Bool) (name : List (List ℕ)) → is_empty name ≡ false → may_follow begun name 258 ≡ true
star-follow begun [] some = absurd (cc (some))
star-follow begun ([] ∷ ns) some = refl
star-follow begun ((b ∷ n) ∷ ns) some = or_last (eqb 258 b) (begun && eqb 258 260)
  where
    or_last : (s t : Bool) → (s || false || true || t) ≡ true
    or_last true t = refl
    or_last false t = refl

join-behind : (b : ℕ) (n : List ℕ) (ns : List (List ℕ)) → join_with_byte 46 ((b ∷ n) ∷ ns) ≡ b ∷ join_with_byte 46 (n ∷ ns)
join-behind b n [] = refl
join-behind b n (m ∷ ns) = refl

-- whether a qualifier is open hangs on its last byte alone
open-tail : (kind : NameKind) (l : Bool) (a c : ℕ) (p : List ℕ) → is_open kind l (a ∷ c ∷ p) ≡ is_open kind l (c ∷ p)
open-tail DataSet l a c p = refl
open-tail General l a c p =
    ap (λ (x : ℕ). l && eqb x 42) (last-get (a ∷ c ∷ p) ∙ sym (last-get (c ∷ p)))

open-none : (kind : NameKind) (l : Bool) → is_open kind l [] ≡ false
open-none DataSet l = refl
open-none General true = refl
open-none General false = refl

open-one : (kind : NameKind) (l : Bool) (a : ℕ) → eqb a 42 ≡ false → is_open kind l (a ∷ []) ≡ false
open-one DataSet l a h = refl
open-one General true a h = h
open-one General false a h = refl

-- the rest of a qualifier, where its first byte has been met
after-byte : (kind : NameKind) (a : ℕ) (p : List ℕ) (ps : List (List ℕ)) (b : ℕ) (n : List ℕ) (ns : List (List ℕ)) → eqb a 42 ≡ false → covers_within kind ((a ∷ p) ∷ ps) ((b ∷ n) ∷ ns) ≡ true → covers_within kind (p ∷ ps) (n ∷ ns) ≡ true
after-byte kind a [] ps b n ns plain h =
    let shut : is_open kind (is_empty ps) (a ∷ []) ≡ false = open-one kind (is_empty ps) a plain in
    let none : is_open kind (is_empty ps) [] ≡ false = open-none kind (is_empty ps) in
    let met : (((eqb a 42) && true) || (((eqb a 37) || (eqb a b)) && matches [] n)) && covers_all kind ps ns ≡ true = rw shut at h in
    both (((eqb a 42) && true) || (((eqb a 37) || (eqb a b)) && matches [] n)) (covers_all kind ps ns) met
    (λ one rest. either ((eqb a 42) && true) (((eqb a 37) || (eqb a b)) && matches [] n) one
    (λ star. absurd (both (eqb a 42) true star (λ e _. absurd (cc (e, plain)))))
    (λ like. both ((eqb a 37) || (eqb a b)) (matches [] n) like
    (λ _ end. rw (none, end) rest)))
after-byte kind a (c ∷ p) ps b n ns plain h = settled (is_open kind (is_empty ps) (c ∷ p)) refl
  where
    settled : (t : Bool) → is_open kind (is_empty ps) (c ∷ p) ≡ t → covers_within kind ((c ∷ p) ∷ ps) (n ∷ ns) ≡ true
    settled true is =
        let opened : is_open kind (is_empty ps) (a ∷ c ∷ p) ≡ true = open-tail kind (is_empty ps) a c p ∙ is in
        let begun : begins (take (length (a ∷ c ∷ p) - 1) (a ∷ c ∷ p)) (join_with_byte 46 ((b ∷ n) ∷ ns)) ≡ true = rw opened at h in
        let met : begins (a ∷ front (c ∷ p)) (b ∷ join_with_byte 46 (n ∷ ns)) ≡ true =
        sym (ap (λ (f : List ℕ). begins f (b ∷ join_with_byte 46 (n ∷ ns))) (front-take (a ∷ c ∷ p))) ∙ sym (ap (λ (xs : List ℕ). begins (take (length (a ∷ c ∷ p) - 1) (a ∷ c ∷ p)) xs) (join-behind b n ns)) ∙ begun in
        both (cond (eqb a 37) (not (eqb b 46)) (eqb a b)) (begins (front (c ∷ p)) (join_with_byte 46 (n ∷ ns))) met
        (λ _ rest. rw is (ap (λ (f : List ℕ). begins f (join_with_byte 46 (n ∷ ns))) (front-take (c ∷ p)) ∙ rest))
    settled false is =
        let shut : is_open kind (is_empty ps) (a ∷ c ∷ p) ≡ false = open-tail kind (is_empty ps) a c p ∙ is in
        let met : (((eqb a 42) && false) || (((eqb a 37) || (eqb a b)) && matches (c ∷ p) n)) && covers_all kind ps ns ≡ true = rw shut at h in
        both (((eqb a 42) && false) || (((eqb a 37) || (eqb a b)) && matches (c ∷ p) n)) (covers_all kind ps ns) met
        (λ one rest. either ((eqb a 42) && false) (((eqb a 37) || (eqb a b)) && matches (c ∷ p) n) one
        (λ star. absurd (both (eqb a 42) false star (λ _ e. absurd (cc (e)))))
        (λ like. both ((eqb a 37) || (eqb a b)) (matches (c ∷ p) n) like
        (λ _ more. rw (is, more) rest)))

-- a byte of the pattern has been met by one of the name
pub step-byte : (kind : NameKind) (c : ℕ) (cs : List ℕ) (b : ℕ) (n : List ℕ) (ns : List (List ℕ)) → c < 257 → Within kind (c ∷ cs) ((b ∷ n) ∷ ns) → Reached kind false cs (n ∷ ns)
step-byte kind c cs b n ns low w = settled w.first w.rest w.bytes w.ranked w.covered
  where
    settled : (p : List ℕ) (ps : List (List ℕ)) → EachQualifier IsByte (p ∷ ps) → map rank p ++ 257 ∷ ranks ps ≡ c ∷ cs → covers_within kind (p ∷ ps) ((b ∷ n) ∷ ns) ≡ true → Reached kind false cs (n ∷ ns)
    settled [] ps bytes ranked covered = absurd (let head : ◌≡◌ {A = ℕ} 257 c = (cc) in omega arith)
    settled (a ∷ p) ps bytes ranked covered =
        let head : rank a ≡ c = (cc) in
        let tail : map rank p ++ 257 ∷ ranks ps ≡ cs = (cc) in
        record {
          left = p ∷ ps;
          bytes = (bytes.0.1, bytes.1);
          ranked = tail;
          covered = after-byte kind a p ps b n ns (no-star a c bytes.0.0.small head low) covered;
        }

-- a qualifier of the pattern ends with one of the name
pub step-end : (kind : NameKind) (cs : List ℕ) (ns : List (List ℕ)) → Within kind (257 ∷ cs) ([] ∷ ns) → Reached kind true cs ns
step-end kind cs ns w = settled w.first w.rest w.bytes w.ranked w.covered
  where
    settled : (p : List ℕ) (ps : List (List ℕ)) → EachQualifier IsByte (p ∷ ps) → map rank p ++ 257 ∷ ranks ps ≡ 257 ∷ cs → covers_within kind (p ∷ ps) ([] ∷ ns) ≡ true → Reached kind true cs ns
    settled [] ps bytes ranked covered =
        let tail : ranks ps ≡ cs = (cc) in
        let none : is_open kind (is_empty ps) [] ≡ false = open-none kind (is_empty ps) in
        let rest : true && covers_all kind ps ns ≡ true = rw none at covered in
        record { left = ps; bytes = bytes.1; ranked = tail; covered = rest }
    settled (a ∷ p) ps bytes ranked covered =
        let head : rank a ≡ 257 = (cc) in
        absurd ((rank-other a bytes.0.0.small).0 head)

-- below a qualifier that isn't `**`
open-follows : (kind : NameKind) (begun l : Bool) (a : ℕ) (p n : List ℕ) (ns : List (List ℕ)) → IsByte a → EachByte IsPlain n → is_open kind l (a ∷ p) ≡ true → begins (take (length (a ∷ p) - 1) (a ∷ p)) (join_with_byte 46 (n ∷ ns)) ≡ true → may_follow begun (n ∷ ns) (rank a) ≡ true
open-follows kind begun l a [] n ns byte plain opened m =
    let value : rank a ≡ 258 = rank-star a byte.small (ends_open kind l (a ∷ []) opened) in
    rw value (star-follow begun (n ∷ ns) refl)
open-follows kind begun l a (d ∷ p) [] ns byte plain opened m =
    let behind = behind-first [] ns in
    let met : begins (a ∷ front (d ∷ p)) behind.0 ≡ true = sym (ap (λ (f : List ℕ). begins f behind.0) (front-take (a ∷ d ∷ p))) ∙ sym (ap (λ (xs : List ℕ). begins (take (length (a ∷ d ∷ p) - 1) (a ∷ d ∷ p)) xs) behind.2) ∙ m in
    absurd (no-match a (front (d ∷ p)) behind.0 byte.no_period behind.1 met)
open-follows kind begun l a (d ∷ p) (b ∷ n) ns byte plain opened m =
    let met : begins (a ∷ front (d ∷ p)) (b ∷ join_with_byte 46 (n ∷ ns)) ≡ true =
    sym (ap (λ (f : List ℕ). begins f (b ∷ join_with_byte 46 (n ∷ ns))) (front-take (a ∷ d ∷ p))) ∙ sym (ap (λ (xs : List ℕ). begins (take (length (a ∷ d ∷ p) - 1) (a ∷ d ∷ p)) xs) (join-behind b n ns)) ∙ m in
    both (cond (eqb a 37) (not (eqb b 46)) (eqb a b)) (begins (front (d ∷ p)) (join_with_byte 46 (n ∷ ns))) met
    (λ one _. fits-follow begun a b n ns plain.0 (one_byte (eqb a 37) a b refl one))

like-follows : (begun : Bool) (a : ℕ) (p n : List ℕ) (ns : List (List ℕ)) → IsByte a → EachByte IsPlain n → matches (a ∷ p) n ≡ true → may_follow begun (n ∷ ns) (rank a) ≡ true
like-follows begun a p [] ns byte plain m = both (eqb a 42) (is_empty p) m
    (λ star _. let value : rank a ≡ 258 = rank-star a byte.small star in rw value (star-follow begun ([] ∷ ns) refl))
like-follows begun a p (b ∷ n) ns byte plain m = either ((eqb a 42) && is_empty p) (((eqb a 37) || (eqb a b)) && matches p n) m
    (λ final. both (eqb a 42) (is_empty p) final
    (λ star _. let value : rank a ≡ 258 = rank-star a byte.small star in rw value (star-follow begun ((b ∷ n) ∷ ns) refl)))
    (λ rest. both ((eqb a 37) || (eqb a b)) (matches p n) rest
    (λ one _. fits-follow begun a b n ns plain.0 (either (eqb a 37) (eqb a b) one (λ any. inl (equal_byte a 37 any)) (λ same. inr (equal_byte a b same)))))

within-follows : (kind : NameKind) (begun : Bool) (c : ℕ) (cs : List ℕ) (p : List ℕ) (ps name : List (List ℕ)) → EachQualifier IsPlain name → EachQualifier IsByte (p ∷ ps) → map rank p ++ 257 ∷ ranks ps ≡ c ∷ cs → covers_within kind (p ∷ ps) name ≡ true → may_follow begun name c ≡ true
within-follows kind begun c cs p ps [] plain bytes ranked covered = absurd (settled (is_open kind (is_empty ps) p) covered)
  where
    settled : (t : Bool) → cond t false false ≡ true → ⊥
    settled true e = absurd (cc (e))
    settled false e = absurd (cc (e))
within-follows kind begun c cs [] ps ([] ∷ ns) plain bytes ranked covered = let head : c ≡ 257 = (cc) in rw head refl
within-follows kind begun c cs [] ps ((b ∷ n) ∷ ns) plain bytes ranked covered =
    let none : is_open kind (is_empty ps) [] ≡ false = open-none kind (is_empty ps) in
    absurd (let e : ◌≡◌ {A = Bool} false true = rw none at covered in cc (e))
within-follows kind begun c cs (a ∷ p) ps (n ∷ ns) plain bytes ranked covered = rw same (settled (is_open kind (is_empty ps) (a ∷ p)) refl covered)
  where
    same : c ≡ rank a
    same = (cc (ranked))

    settled : (t : Bool) → is_open kind (is_empty ps) (a ∷ p) ≡ t → cond t (begins (take (length (a ∷ p) - 1) (a ∷ p)) (join_with_byte 46 (n ∷ ns))) (matches (a ∷ p) n && covers_all kind ps ns) ≡ true → may_follow begun (n ∷ ns) (rank a) ≡ true
    settled true is e = open-follows kind begun (is_empty ps) a p n ns bytes.0.0 plain.0 is e
    settled false is e = both (matches (a ∷ p) n) (covers_all kind ps ns) e (λ like _. like-follows begun a p n ns bytes.0.0 plain.0 like)

double-follows : (name : List (List ℕ)) → may_follow true name 260 ≡ true
double-follows [] = refl
double-follows ([] ∷ ns) = refl
double-follows ((b ∷ n) ∷ ns) = or_last (eqb 260 b)
  where
    or_last : (s : Bool) → (s || false || false || true) ≡ true
    or_last true = refl
    or_last false = refl

-- A pattern that covers the name goes on with a rank that may follow.
pub follows : (kind : NameKind) (begun : Bool) (c : ℕ) (cs : List ℕ) (name : List (List ℕ)) → EachQualifier IsPlain name → Reached kind begun (c ∷ cs) name → may_follow begun name c ≡ true
follows kind begun c cs name plain w = settled begun w.left w.bytes w.ranked w.covered
  where
    whole : (p : List ℕ) (ps : List (List ℕ)) (t : Bool) → is_double p ≡ t → EachQualifier IsByte (p ∷ ps) → cond t (260 ∷ ranks ps) (map rank p ++ 257 ∷ ranks ps) ≡ c ∷ cs → covers_all kind (p ∷ ps) name ≡ true → may_follow true name c ≡ true
    whole p ps true is bytes ranked covered = let head : c ≡ 260 = (cc) in rw head (double-follows name)
    whole p ps false is bytes ranked covered =
        within-follows kind true c cs p ps name plain bytes ranked (sym (ap (λ (u : Bool). cond u (some_end (λ end. covers_all kind ps end) name) (covers_within kind (p ∷ ps) name)) is) ∙ covered)

    settled : (t : Bool) (ps : List (List ℕ)) → EachQualifier IsByte ps → cond t (ranks ps) (ranks_within ps) ≡ c ∷ cs → cond t (covers_all kind ps name) (covers_within kind ps name) ≡ true → may_follow t name c ≡ true
    settled true [] bytes ranked covered =
        let head : c ≡ 259 = (cc) in
        let none : [] ≡ name = no_name name covered in
        rw head (subst (λ (ns : List (List ℕ)). may_follow true ns 259 ≡ true) none refl)
    settled false [] bytes ranked covered = absurd (cc (covered))
    settled true (p ∷ ps) bytes ranked covered = whole p ps (is_double p) refl bytes ranked covered
    settled false (p ∷ ps) bytes ranked covered = within-follows kind false c cs p ps name plain bytes ranked covered

-- ranks that may not follow
none_of : (begun : Bool) (s t u : Bool) → s ≡ false → t ≡ false → u ≡ false → (s || t || (begun && u)) ≡ false
none_of true s t u hs ht hu = rw (hs, ht, hu) refl
none_of false s t u hs ht hu = rw (hs, ht) refl

other_code : (c d : ℕ) → c ≢ d → eqb c d ≡ false
other_code c d h = grind (arith, nat_tests)

pub none-past : (text : List ℕ) (begun : Bool) (at c : ℕ) → length text < at → c ≢ 259 → c ≢ 260 → may_follow begun (rest_at text at) c ≡ false
none-past text begun at c past a b =
    let none : rest_at text at ≡ [] = rest_at-past at text past in
    let first : eqb c 259 ≡ false = other_code c 259 a in
    let second : eqb c 260 ≡ false = other_code c 260 b in
    rw (none, first, second) refl

pub none-end : (text : List ℕ) (begun : Bool) (at c : ℕ) → at ≤ length text → (at < length text → get_or text at 0 ≡ 46) → c ≢ 257 → c ≢ 258 → c ≢ 260 → may_follow begun (rest_at text at) c ≡ false
none-end text begun at c h ends a b d =
    ap (λ (qs : List (List ℕ)). may_follow begun qs c) (rest_at-end text at h ends)
    ∙ none_of begun (eqb c 257) (eqb c 258) (eqb c 260) (other_code c 257 a) (other_code c 258 b) (other_code c 260 d)

pub none-byte : (text : List ℕ) (begun : Bool) (at c : ℕ) → at < length text → (get_or text at 0 ≡ 46 → ⊥) → c ≢ get_or text at 0 → c ≢ 256 → c ≢ 258 → c ≢ 260 → may_follow begun (rest_at text at) c ≡ false
none-byte text begun at c h other e a b d =
    let found = rest_at-byte text at h other in
    ap (λ (qs : List (List ℕ)). may_follow begun qs c) found.2
    ∙ four (eqb c (get_or text at 0)) (other_code c (get_or text at 0) e)
  where
    four : (t : Bool) → t ≡ false → (t || eqb c 256 || eqb c 258 || (begun && eqb c 260)) ≡ false
    four t h = rw (h) (none_of begun (eqb c 256) (eqb c 258) (eqb c 260) (other_code c 256 a) (other_code c 258 b) (other_code c 260 d))

-- A pattern has been met by a name up to a place, which is also the number of its ranks so far. Each pattern with these
-- ranks in front that covers the name has what is left of it covering what is left of the name.
pub record Met (pattern name : List ℕ) (begun : Bool) (count : ℕ) (these : List ℕ) : Type 0 where
  pub front : ranks (qualifiers pattern) ≡ take count (ranks (qualifiers pattern)) ++ these
  pub size : length (take count (ranks (qualifiers pattern))) ≡ count
  pub reach : (kind : NameKind) (xs : List (List ℕ)) (rest : List ℕ) → EachQualifier IsByte xs → ranks xs ≡ take count (ranks (qualifiers pattern)) ++ rest → covers_all kind xs (qualifiers name) ≡ true → Reached kind begun rest (rest_at name count)

pub met-start : (pattern name : List ℕ) → Met pattern name true 0 (ranks (qualifiers pattern))
met-start pattern name = record {
  front = refl;
  size = refl;
  reach = λ kind xs rest bytes ranked covered. record { left = xs; bytes = bytes; ranked = ranked; covered = covered };
}

-- before the first step the ranks are all still to come
pub met-first : {pattern name : List ℕ} {begun : Bool} {count : ℕ} {these : List ℕ} → Met pattern name begun count these → count ≡ 0 → (r : ℕ) (rest : List ℕ) → these ≡ r ∷ rest → ranks (qualifiers pattern) ≡ r ∷ rest
met-first {pattern} {name} {begun} {count} {these} m none r rest next = m.front ∙ ap (λ (n : ℕ). take n (ranks (qualifiers pattern)) ++ these) none ∙ next

module _ {pattern name : List ℕ} {begun : Bool} {count : ℕ} {these : List ℕ} (m : Met pattern name begun count these) (r : ℕ) (rest : List ℕ) (next : these ≡ r ∷ rest) where
  longer : take (count + 1) (ranks (qualifiers pattern)) ≡ take count (ranks (qualifiers pattern)) ++ r ∷ []
  longer =
      let whole : ranks (qualifiers pattern) ≡ (take count (ranks (qualifiers pattern)) ++ r ∷ []) ++ rest = m.front ∙ ap (λ (xs : List ℕ). take count (ranks (qualifiers pattern)) ++ xs) next ∙ sym (append_assoc (take count (ranks (qualifiers pattern))) (r ∷ []) rest) in
      let more : length (take count (ranks (qualifiers pattern)) ++ r ∷ []) ≡ count + 1 = length-append (take count (ranks (qualifiers pattern))) (r ∷ []) ∙ ap (λ (n : ℕ). n + 1) m.size in
      ap (λ (xs : List ℕ). take (count + 1) xs) whole ∙ take_at (take count (ranks (qualifiers pattern)) ++ r ∷ []) rest (count + 1) more

  longer-size : length (take (count + 1) (ranks (qualifiers pattern))) ≡ count + 1
  longer-size = ap (λ (xs : List ℕ). length xs) longer ∙ length-append (take count (ranks (qualifiers pattern))) (r ∷ []) ∙ ap (λ (n : ℕ). n + 1) m.size

  longer-front : ranks (qualifiers pattern) ≡ take (count + 1) (ranks (qualifiers pattern)) ++ rest
  longer-front = m.front ∙ ap (λ (xs : List ℕ). take count (ranks (qualifiers pattern)) ++ xs) next ∙ sym (append_assoc (take count (ranks (qualifiers pattern))) (r ∷ []) rest) ∙ ap (λ (xs : List ℕ). xs ++ rest) (sym longer)

  earlier : (xs : List (List ℕ)) (more : List ℕ) → ranks xs ≡ take (count + 1) (ranks (qualifiers pattern)) ++ more → ranks xs ≡ take count (ranks (qualifiers pattern)) ++ r ∷ more
  earlier xs more ranked = ranked ∙ ap (λ (ys : List ℕ). ys ++ more) longer ∙ append_assoc (take count (ranks (qualifiers pattern))) (r ∷ []) more

  -- by a byte
  pub met-byte : r < 257 → count < length name → (get_or name count 0 ≡ 46 → ⊥) → Met pattern name false (count + 1) rest
  met-byte low within_name other =
      let found = rest_at-byte name count within_name other in
      record {
        front = longer-front;
        size = longer-size;
        reach = λ kind xs more bytes ranked covered.
            let reached = subst (λ (ns : List (List ℕ)). Reached kind begun (r ∷ more) ns) found.2 (m.reach kind xs (r ∷ more) bytes (earlier xs more ranked) covered) in
            let stepped = step-byte kind r more (get_or name count 0) found.0 found.1 low (within kind begun r more ((get_or name count 0 ∷ found.0) ∷ found.1) (λ e. omega arith) (λ e. omega arith) reached) in
            rw add-one (subst (λ (ns : List (List ℕ)). Reached kind false more ns) (sym found.3) stepped);
      }

  -- by the end of a qualifier
  pub met-end : r ≡ 257 → count ≤ length name → (count < length name → get_or name count 0 ≡ 46) → Met pattern name true (count + 1) rest
  met-end is within_name ends =
      let found = rest_at-end name count within_name ends in
      record {
        front = longer-front;
        size = longer-size;
        reach = λ kind xs more bytes ranked covered.
            let reached = subst (λ (ns : List (List ℕ)). Reached kind begun (r ∷ more) ns) found (m.reach kind xs (r ∷ more) bytes (earlier xs more ranked) covered) in
            let in_qualifier = within kind begun r more ([] ∷ rest_at name (count + 1)) (λ e. omega arith) (λ e. omega arith) reached in
            step-end kind more (rest_at name (count + 1)) (subst (λ (c : ℕ). Within kind (c ∷ more) ([] ∷ rest_at name (count + 1))) is in_qualifier);
      }

  -- no pattern goes on with a rank that may not follow
  pub met-gap : (least : ℕ) → r < least → ((c : ℕ) → r ≤ c → c < least → may_follow begun (rest_at name count) c ≡ false) → EachQualifier IsPlain (rest_at name count) → (p : Spelled) → IsPattern p → is_lt (slice_cmp nat_cmp (ranks (qualifiers p.text)) (ranks (qualifiers pattern))) ≡ false → is_lt (slice_cmp nat_cmp (ranks (qualifiers p.text)) (take count (ranks (qualifiers pattern)) ++ least ∷ [])) ≡ true → covers_all p.kind (qualifiers p.text) (qualifiers name) ≡ false
  met-gap least room none plain p lawful not_before below = settled (covers_all p.kind (qualifiers p.text) (qualifiers name)) refl
    where
      found : Between (take count (ranks (qualifiers pattern))) r least (ranks (qualifiers p.text))
      found = between (take count (ranks (qualifiers pattern))) r least rest (ranks (qualifiers p.text)) (subst (λ (ys : List ℕ). is_lt (slice_cmp nat_cmp (ranks (qualifiers p.text)) ys) ≡ false) (m.front ∙ ap (λ (xs : List ℕ). take count (ranks (qualifiers pattern)) ++ xs) next) not_before) below

      settled : (t : Bool) → covers_all p.kind (qualifiers p.text) (qualifiers name) ≡ t → t ≡ false
      settled false is = refl
      settled true is =
          let reached = m.reach p.kind (qualifiers p.text) (found.rank ∷ found.rest) (pattern-bytes p lawful) found.split is in
          let met : may_follow begun (rest_at name count) found.rank ≡ true = follows p.kind begun found.rank found.rest (rest_at name count) plain reached in
          let unmet : may_follow begun (rest_at name count) found.rank ≡ false = none found.rank found.from found.below in
          absurd (cc (met, unmet))

  pub met-onward : (least : ℕ) → r < least → is_lt (slice_cmp nat_cmp (ranks (qualifiers pattern)) (take count (ranks (qualifiers pattern)) ++ least ∷ [])) ≡ true
  met-onward least room =
      ap (λ (xs : List ℕ). is_lt (slice_cmp nat_cmp xs (take count (ranks (qualifiers pattern)) ++ least ∷ []))) (m.front ∙ ap (λ (xs : List ℕ). take count (ranks (qualifiers pattern)) ++ xs) next)
      ∙ ap is_lt (same_front (take count (ranks (qualifiers pattern))) (r ∷ rest) (least ∷ []) ∙ less_head r least rest [] room)

  pub met-room : count < length (ranks (qualifiers pattern))
  met-room =
      let whole : length (ranks (qualifiers pattern)) ≡ length (take count (ranks (qualifiers pattern))) + length these = ap (λ (xs : List ℕ). length xs) m.front ∙ length-append (take count (ranks (qualifiers pattern))) these in
      let one : length these ≡ length rest + 1 = ap (λ (xs : List ℕ). length xs) next ∙ (omega arith) in
      omega (arith, m.size)

-- the bytes of what is left of a name are plain
plain-first : (b : ℕ) (qs : List (List ℕ)) → EachQualifier IsPlain (onto_first b qs) → EachQualifier IsPlain qs
plain-first b [] plain = tt
plain-first b (q ∷ qs) plain = (plain.0.1, plain.1)

pub plain-rest : (name : List ℕ) (at : ℕ) → EachQualifier IsPlain (qualifiers name) → EachQualifier IsPlain (rest_at name at)
plain-rest name zero plain = plain
plain-rest [] (suc at) plain = tt
plain-rest (b ∷ name) (suc at) plain = plain-rest name at (settled (eqb b 46) plain)
  where
    settled : (t : Bool) → EachQualifier IsPlain (cond t ([] ∷ qualifiers name) (onto_first b (qualifiers name))) → EachQualifier IsPlain (qualifiers name)
    settled true p = p.1
    settled false p = plain-first b (qualifiers name) p
