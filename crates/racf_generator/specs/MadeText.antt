-- The text that is made for a number of users: the commands that define them, and then the requests of each of them.
use Rattle.std.specs.Prelude.{ℕ, ◌+◌, ◌-◌, ◌/◌, ◌%◌, ◌==◌, List, [], ◌∷◌, ◌++◌, map, flat_map, codes, if◌then◌else◌}
use Rattle.std.specs.List.{range_with_len}

-- ---- names: a letter and a number of six digits, with leading zeros
abbrev pub six_digits : ℕ → List ℕ
six_digits number = map (λ power. 48 + number / power % 10) (100000 ∷ 10000 ∷ 1000 ∷ 100 ∷ 10 ∷ 1 ∷ [])

abbrev pub user_name : ℕ → List ℕ
user_name user = codes "U" ++ six_digits user

abbrev pub group_name : ℕ → List ℕ
group_name group = codes "G" ++ six_digits group

-- ---- the lines for a user. Users are counted from 1
abbrev pub add_group : ℕ → List ℕ
add_group group = codes "ADDGROUP " ++ group_name group ++ codes " SUPGROUP(SYS1) OWNER(SYS1)"

abbrev pub add_user : (user group : ℕ) → List ℕ
add_user user group = codes "ADDUSER " ++ user_name user ++ codes " DFLTGRP(" ++ group_name group ++ codes ") OWNER(" ++ group_name group ++ codes ")"

abbrev pub add_data_set : ℕ → List ℕ
add_data_set user = codes "ADDSD '" ++ user_name user ++ codes ".**' OWNER(" ++ user_name user ++ codes ") UACC(READ)"

-- Ten users have one group, which is defined before the first of them.
abbrev pub group_of : ℕ → ℕ
group_of user = (user - 1) / 10 + 1

abbrev pub definitions : ℕ → List (List ℕ)
definitions user =
    (if (user - 1) % 10 == 0 then add_group (group_of user) ∷ [] else [])
    ++ (add_user user (group_of user) ∷ add_data_set user ∷ [])

-- Each asks for a data set of the next user, the last for one of the first, and for one of his own.
abbrev pub next_user : (users user : ℕ) → ℕ
next_user users user = user % users + 1

abbrev pub requests : (users user : ℕ) → List (List ℕ)
requests users user =
    (codes "VERIFY A " ++ user_name user)
    ∷ (codes "AUTH A DATASET " ++ user_name (next_user users user) ++ codes ".DATA UPDATE")
    ∷ (codes "AUTH A DATASET " ++ user_name user ++ codes ".DATA ALTER")
    ∷ codes "DELETE A"
    ∷ []

-- ---- the whole
abbrev pub made_lines : ℕ → List (List ℕ)
made_lines users = flat_map definitions (range_with_len 1 users) ++ flat_map (requests users) (range_with_len 1 users)

-- A line feed ends each line.
abbrev pub text_of : List (List ℕ) → List ℕ
text_of lines = flat_map (λ line. line ++ codes "\n") lines

unfoldable pub made_text : ℕ → List ℕ
made_text users = text_of (made_lines users)
