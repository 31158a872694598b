-- The text that is made, part by part, and how long it is.
use Rattle.std.proofs.Common.{ℕ, ◌+◌, ◌-◌, ◌*◌, ◌/◌, ◌%◌, ◌^◌, ◌<◌, ◌≤◌, ◌≡◌, ◌∙◌, Bool, true, false, cond, zero, suc, eqb, ltb, List, [], ◌∷◌, ◌++◌, length, refl, sym, ap, subst, arith, append-nil, length-append}
use Rattle.std.specs.Prelude.{flat_map}
use Rattle.std.specs.List.{range_with_len}
use Rattle.std.proofs.lemmas.Bool.{lt-ltb, le-ltb, eqb-true, eqb-false}
use Rattle.std.proofs.lemmas.List.Concat.{flat_map-append}
use Rattle.std.proofs.lemmas.List.FromFn.{length-range_with_len}
use Rattle.racf_generator.specs.MadeText.{add_data_set, add_group, add_user, definitions, group_of, requests, made_lines, made_text, text_of}
use Rattle.racf_generator.specs.Made.{definitions_text, requests_text, part_text, parts_from}

-- ---- ranges
range-append : (from n m : ℕ) → range_with_len from (n + m) ≡ range_with_len from n ++ range_with_len (from + n) m
range-append from zero m =
    let none : 0 + m ≡ m = omega arith in
    let here : from ≡ from + 0 = omega arith in
    ap (λ k. range_with_len from k) none ∙ ap (λ first. range_with_len first m) here
range-append from (suc n) m =
    let one : suc n + m ≡ suc (n + m) = omega arith in
    let next : from + 1 + n ≡ from + suc n = omega arith in
    ap (λ k. range_with_len from k) one ∙ ap (λ xs. from ∷ xs) (range-append (from + 1) n m)
    ∙ ap (λ first. from ∷ (range_with_len (from + 1) n ++ range_with_len first m)) next

-- the text of lines that are made number by number
text_of-flat_map : (f : ℕ → List (List ℕ)) (xs : List ℕ) → text_of (flat_map f xs) ≡ flat_map (λ x. text_of (f x)) xs
text_of-flat_map f [] = refl
text_of-flat_map f (x ∷ xs) = flat_map-append (λ line. line ++ 10 ∷ []) (f x) (flat_map f xs) ∙ ap (λ rest. text_of (f x) ++ rest) (text_of-flat_map f xs)

-- ---- the parts
part_text-definitions : (users part : ℕ) → part < users → part_text users part ≡ definitions_text (part + 1)
unfolding part_text
part_text-definitions users part h = ap (λ b. cond b (definitions_text (part + 1)) (requests_text users (part - users + 1))) (lt-ltb part users h)

part_text-requests : (users part : ℕ) → users ≤ part → part_text users part ≡ requests_text users (part - users + 1)
unfolding part_text
part_text-requests users part h = ap (λ b. cond b (definitions_text (part + 1)) (requests_text users (part - users + 1))) (le-ltb part users h)

definition_parts : (users part n : ℕ) → part + n ≤ users → flat_map (part_text users) (range_with_len part n) ≡ flat_map definitions_text (range_with_len (part + 1) n)
definition_parts users part zero h = refl
definition_parts users part (suc n) h =
    ap (λ text. text ++ flat_map (part_text users) (range_with_len (part + 1) n)) (part_text-definitions users part (omega arith))
    ∙ ap (λ rest. definitions_text (part + 1) ++ rest) (definition_parts users (part + 1) n (omega arith))

request_parts : (users part n : ℕ) → users ≤ part → flat_map (part_text users) (range_with_len part n) ≡ flat_map (requests_text users) (range_with_len (part - users + 1) n)
request_parts users part zero h = refl
request_parts users part (suc n) h =
    ap (λ text. text ++ flat_map (part_text users) (range_with_len (part + 1) n)) (part_text-requests users part h)
    ∙ ap (λ rest. requests_text users (part - users + 1) ++ rest)
    (request_parts users (part + 1) n (omega arith) ∙ ap (λ first. flat_map (requests_text users) (range_with_len first n)) (omega arith))

-- before any is made, all parts are to come
pub parts_from-whole : (users : ℕ) → parts_from users 0 ≡ made_text users
unfolding parts_from made_text definitions_text requests_text
parts_from-whole users =
    let R : List ℕ = range_with_len 1 users in
    let two : 2 * users - 0 ≡ users + users = omega arith in
    let one : 0 + users - users + 1 ≡ 1 = omega arith in
    ap (λ n. flat_map (part_text users) (range_with_len 0 n)) two
    ∙ ap (flat_map (part_text users)) (range-append 0 users users)
    ∙ flat_map-append (part_text users) (range_with_len 0 users) (range_with_len (0 + users) users)
    ∙ ap (λ text. text ++ flat_map (part_text users) (range_with_len (0 + users) users)) (definition_parts users 0 users (omega arith))
    ∙ ap (λ text. flat_map definitions_text R ++ text) (request_parts users (0 + users) users (omega arith) ∙ ap (λ first. flat_map (requests_text users) (range_with_len first users)) one)
    ∙ ap (λ text. text ++ flat_map (requests_text users) R) (sym (text_of-flat_map definitions R))
    ∙ ap (λ text. text_of (flat_map definitions R) ++ text) (sym (text_of-flat_map (requests users) R))
    ∙ sym (flat_map-append (λ line. line ++ 10 ∷ []) (flat_map definitions R) (flat_map (requests users) R))

-- a part, and those behind it
pub parts_from-next : (users part : ℕ) → part < 2 * users → parts_from users part ≡ part_text users part ++ parts_from users (part + 1)
unfolding parts_from
parts_from-next users part h =
    let n : ℕ = 2 * users - (part + 1) in
    let e : 2 * users - part ≡ suc n = omega arith in
    ap (λ m. flat_map (part_text users) (range_with_len part m)) e

-- behind the last is none
pub parts_from-none : (users part : ℕ) → 2 * users ≤ part → parts_from users part ≡ []
unfolding parts_from
parts_from-none users part h =
    let e : 2 * users - part ≡ 0 = omega arith in
    ap (λ m. flat_map (part_text users) (range_with_len part m)) e

-- ---- how long they are
definitions_size : (b : Bool) (user group : ℕ) → length (text_of (cond b (add_group group ∷ []) [] ++ (add_user user group ∷ add_data_set user ∷ []))) ≡ cond b 137 93
definitions_size true user group = refl
definitions_size false user group = refl

definitions_text_size : (user : ℕ) → length (definitions_text user) ≡ cond (eqb ((user - 1) % 10) 0) 137 93
unfolding definitions_text
definitions_text_size user = definitions_size (eqb ((user - 1) % 10) 0) user (group_of user)

requests_text_size : (users user : ℕ) → length (requests_text users user) ≡ 95
unfolding requests_text
requests_text_size users user = refl

between : (b : Bool) (n : ℕ) → n ≡ cond b 137 93 → (0 < n) × (n ≤ 137)
between true n e = (omega arith, omega arith)
between false n e = (omega arith, omega arith)

-- a part has a byte
part_text-size : (users part : ℕ) (b : Bool) → ltb part users ≡ b → (0 < length (part_text users part)) × (length (part_text users part) ≤ 137)
unfolding part_text
part_text-size users part true h =
    let P : Bool → Type 0 = λ b. (0 < length (cond b (definitions_text (part + 1)) (requests_text users (part - users + 1)))) × (length (cond b (definitions_text (part + 1)) (requests_text users (part - users + 1))) ≤ 137) in
    subst P (sym h) (between (eqb ((part + 1 - 1) % 10) 0) (length (definitions_text (part + 1))) (definitions_text_size (part + 1)))
part_text-size users part false h =
    let P : Bool → Type 0 = λ b. (0 < length (cond b (definitions_text (part + 1)) (requests_text users (part - users + 1)))) × (length (cond b (definitions_text (part + 1)) (requests_text users (part - users + 1))) ≤ 137) in
    let size = requests_text_size users (part - users + 1) in
    subst P (sym h) (omega arith, omega arith)

pub part_text-some : (users part : ℕ) → 0 < length (part_text users part)
part_text-some users part = (part_text-size users part (ltb part users) refl).0

parts_size : (users : ℕ) (xs : List ℕ) → length (flat_map (part_text users) xs) ≤ length xs * 137
parts_size users [] = omega arith
parts_size users (x ∷ xs) =
    let here = (part_text-size users x (ltb x users) refl).1 in
    omega (arith, here, parts_size users xs, length-append (part_text users x) (flat_map (part_text users) xs))

-- the whole text
pub made_text-size : (users : ℕ) → users ≤ 10000 → length (made_text users) ≤ 2 ^ 28
unfolding parts_from
made_text-size users few =
    let size = parts_size users (range_with_len 0 (2 * users - 0)) in
    omega (arith, size, few, length-range_with_len 0 (2 * users - 0), ap length (parts_from-whole users))

-- ---- how many lines there are
definitions_count : (b : Bool) (user group : ℕ) → length (cond b (add_group group ∷ []) [] ++ (add_user user group ∷ add_data_set user ∷ [])) ≡ cond b 3 2
definitions_count true user group = refl
definitions_count false user group = refl

tens : (b : Bool) (n : ℕ) → eqb (n % 10) 0 ≡ b → (n + 9) / 10 + cond b 3 2 ≡ (n + 10) / 10 + 2
tens true n h = let e : n % 10 ≡ 0 = eqb-true (n % 10) 0 h in omega arith
tens false n h = let e : n % 10 ≡ 0 → ⊥ = eqb-false (n % 10) 0 h in omega arith

definitions_counted : (n : ℕ) → length (flat_map definitions (range_with_len 1 n)) ≡ n * 2 + (n + 9) / 10
definitions_counted zero = refl
definitions_counted (suc n) =
    let R : List ℕ = range_with_len 1 n in
    let user : ℕ = 1 + n in
    let split : range_with_len 1 (suc n) ≡ R ++ user ∷ [] = (let more : suc n ≡ n + 1 = omega arith in ap (range_with_len 1) more ∙ range-append 1 n 1) in
    let lines : flat_map definitions (range_with_len 1 (suc n)) ≡ flat_map definitions R ++ (definitions user ++ []) = ap (flat_map definitions) split ∙ flat_map-append definitions R (user ∷ []) in
    let here : length (definitions user) ≡ cond (eqb ((user - 1) % 10) 0) 3 2 = definitions_count (eqb ((user - 1) % 10) 0) user (group_of user) in
    let before : user - 1 ≡ n = omega arith in
    let last : length (definitions user) ≡ cond (eqb (n % 10) 0) 3 2 = here ∙ ap (λ m. cond (eqb (m % 10) 0) 3 2) before in
    omega (arith, ap length lines, length-append (flat_map definitions R) (definitions user ++ []), ap length (append-nil (definitions user)), last, definitions_counted n, tens (eqb (n % 10) 0) n refl)

requests_counted : (users : ℕ) (xs : List ℕ) → length (flat_map (requests users) xs) ≡ length xs * 4
requests_counted users [] = refl
requests_counted users (x ∷ xs) = omega (arith, requests_counted users xs, length-append (requests users x) (flat_map (requests users) xs))

pub made_lines-count : (users : ℕ) → users * 6 + (users + 9) / 10 ≡ length (made_lines users)
made_lines-count users =
    let R : List ℕ = range_with_len 1 users in
    omega (arith, length-append (flat_map definitions R) (flat_map (requests users) R), definitions_counted users, requests_counted users R, length-range_with_len 1 users)

-- ---- as they are written
definitions_pieces : (b : Bool) (user group : ℕ) → (text_of (cond b (add_group group ∷ []) []) ++ (add_user user group ++ 10 ∷ [])) ++ (add_data_set user ++ 10 ∷ []) ≡ text_of (cond b (add_group group ∷ []) [] ++ (add_user user group ∷ add_data_set user ∷ []))
definitions_pieces true user group = refl
definitions_pieces false user group = refl

pub definitions_text-pieces : (user : ℕ) → (text_of (cond (eqb ((user - 1) % 10) 0) (add_group (group_of user) ∷ []) []) ++ (add_user user (group_of user) ++ 10 ∷ [])) ++ (add_data_set user ++ 10 ∷ []) ≡ definitions_text user
unfolding definitions_text
definitions_text-pieces user = definitions_pieces (eqb ((user - 1) % 10) 0) user (group_of user)
