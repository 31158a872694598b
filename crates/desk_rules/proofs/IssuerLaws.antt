-- An issuer is his ID and his current group.
use Rattle.std.proofs.Common.{◌≡◌, ℕ, Bool, true, false, List, Result, Ok, Err, refl, sym, ◌∙◌, ap, subst}
use Rattle.std.specs.Prelude.{is_ok, IsErr}
use Rattle.std.proofs.Math.Bool.{Bool-set}
use Rattle.access_levels.specs.Spelling.{group_of}
use Rattle.command_fields.specs.declared.issuer.Issuer.{Issuer}
use Rattle.desk_rules.specs.declared.refusal.Refusal.TheVariants.{IssuerNotConnected}
use Rattle.desk_rules.specs.Issuers.{issuer_in}

spelled_in : (issuer : Issuer) (b : Bool) (is : is_ok (group_of issuer.group) ≡ b) → Ok issuer ≡ issuer_in issuer.id issuer.group b is
spelled_in issuer true is = ap (λ (spelled : is_ok (group_of issuer.group) ≡ true). Ok (record { id = issuer.id; group = issuer.group; group_spelled = spelled })) (Bool-set (is_ok (group_of issuer.group)) true issuer.group_spelled is)
spelled_in issuer false is = let no : true ≡ false = sym issuer.group_spelled ∙ is in cc

-- the issuer of that ID and group is the one that the definition makes
pub issuer_in_spelled : (issuer : Issuer) (id group : List ℕ) → issuer.id ≡ id → issuer.group ≡ group → Ok issuer ≡ issuer_in id group (is_ok (group_of group)) refl
issuer_in_spelled issuer id group is_id is_group =
    subst (λ (i : List ℕ). Ok issuer ≡ issuer_in i group (is_ok (group_of group)) refl) is_id
    (subst (λ (g : List ℕ). Ok issuer ≡ issuer_in issuer.id g (is_ok (group_of g)) refl) is_group (spelled_in issuer (is_ok (group_of issuer.group)) refl))

-- a group whose name isn't spelled as one
unspelled_in : (id group : List ℕ) (b : Bool) (is : is_ok (group_of group) ≡ b) → b ≡ false → Err (IssuerNotConnected group) ≡ issuer_in id group b is
unspelled_in id group true is not_so = cc
unspelled_in id group false is not_so = refl

not_ok : {T E : Type 0} (r : Result T E) → IsErr r → is_ok r ≡ false
not_ok (Ok x) h = cc
not_ok (Err e) h = refl

pub issuer_in_unspelled : (id group : List ℕ) → IsErr (group_of group) → Err (IssuerNotConnected group) ≡ issuer_in id group (is_ok (group_of group)) refl
issuer_in_unspelled id group h = unspelled_in id group (is_ok (group_of group)) refl (not_ok (group_of group) h)
