-- Worked rows of the text that is made, and of the counts of an output.
use Rattle.std.specs.Prelude.{◌≡◌, [], ◌∷◌, length, codes, refl}
use Rattle.std.specs.Fmt.{digits}
use Rattle.racf_generator.specs.MadeText.{definitions, requests, made_lines, made_text}
use Rattle.racf_generator.specs.Tally.{ended_lines, tally, summary}

-- one user, who asks for a data set of his own twice
one_user : made_text 1 ≡ codes "ADDGROUP G000001 SUPGROUP(SYS1) OWNER(SYS1)\nADDUSER U000001 DFLTGRP(G000001) OWNER(G000001)\nADDSD 'U000001.**' OWNER(U000001) UACC(READ)\nVERIFY A U000001\nAUTH A DATASET U000001.DATA UPDATE\nAUTH A DATASET U000001.DATA ALTER\nDELETE A\n"
unfolding made_text
one_user = refl

-- no user
no_user : made_text 0 ≡ codes ""
unfolding made_text
no_user = refl

-- twenty users have two groups
twenty_users : length (made_lines 20) ≡ 122
twenty_users = refl

-- the tenth user belongs to the first group, and the eleventh to the second
tenth : definitions 10 ≡ codes "ADDUSER U000010 DFLTGRP(G000001) OWNER(G000001)" ∷ codes "ADDSD 'U000010.**' OWNER(U000010) UACC(READ)" ∷ []
tenth = refl

eleventh : definitions 11 ≡ codes "ADDGROUP G000002 SUPGROUP(SYS1) OWNER(SYS1)" ∷ codes "ADDUSER U000011 DFLTGRP(G000002) OWNER(G000002)" ∷ codes "ADDSD 'U000011.**' OWNER(U000011) UACC(READ)" ∷ []
eleventh = refl

-- the last user asks for a data set of the first
last : requests 11 11 ≡ codes "VERIFY A U000011" ∷ codes "AUTH A DATASET U000001.DATA UPDATE" ∷ codes "AUTH A DATASET U000011.DATA ALTER" ∷ codes "DELETE A" ∷ []
last = refl

-- commands that are accepted, and requests that are answered, one of them denied
answered : summary 7 (tally (ended_lines (codes "1 ACCEPTED\n2 ACCEPTED\n3 ACCEPTED\n3 0 VERIFIED\n3 0 OWNDATA U000001.**\n3 8 INSUFFICIENT X NONE\n3 0 DELETED\n"))) ≡ codes "/* LINES 7 ACCEPTED 3 REFUSED 0 ANSWERED 4 DENIED 1 NUMBER 3\n"
unfolding digits ended_lines tally
answered = refl

-- a line that is refused, a number that never comes, and the front of a line that no line feed ended
refused : summary 4 (tally (ended_lines (codes "1 ACCEPTED\n1 REFUSED BADLINE 3\n1 4 NOTDEFINED\nNEVER 9\n2 ACC"))) ≡ codes "/* LINES 4 ACCEPTED 1 REFUSED 1 ANSWERED 1 DENIED 0 NUMBER NEVER\n"
unfolding digits ended_lines tally
refused = refl

-- no output
nothing : summary 0 (tally (ended_lines (codes ""))) ≡ codes "/* LINES 0 ACCEPTED 0 REFUSED 0 ANSWERED 0 DENIED 0 NUMBER 0\n"
unfolding digits ended_lines tally
nothing = refl
