-- Keys that the definition gives, worked out: each special rank once.
use Rattle.std.proofs.Common.{◌≡◌, [], ◌∷◌, ◌++◌, codes, refl}
use Rattle.generic_names.specs.OrderKey.{order_key}

-- a whole `*`: 253 behind the first qualifier's end, 252; the name ends with 254
one_asterisk : order_key (codes "SYS1.*") ≡ codes "SYS1" ++ 252 ∷ 253 ∷ 252 ∷ 254 ∷ []
one_asterisk = refl

-- a whole `**` is one byte, 255, and no end of a qualifier stands behind it
two_asterisks : order_key (codes "SYS1.**") ≡ codes "SYS1" ++ 252 ∷ 255 ∷ 254 ∷ []
two_asterisks = refl

two_asterisks_inside : order_key (codes "A.**.B") ≡ codes "A" ++ 252 ∷ 255 ∷ 66 ∷ 252 ∷ 254 ∷ []
two_asterisks_inside = refl

-- `%` is 251
percent_inside : order_key (codes "A.B%C*") ≡ codes "A" ++ 252 ∷ codes "B" ++ 251 ∷ codes "C" ++ 253 ∷ 252 ∷ 254 ∷ []
percent_inside = refl

discrete_name : order_key (codes "SYS1.PARMLIB") ≡ codes "SYS1" ++ 252 ∷ codes "PARMLIB" ++ 252 ∷ 254 ∷ []
discrete_name = refl
