use Rattle.std.proofs.Common.{◌≡◌, ◌-◌, List, ℕ, ◌∙◌, ap, length, drop, take, true, false, bytes_eq, subst}
use Rattle.std.specs.Prelude.{codes}
use Rattle.racf_run.proofs.WordLaws.{output_ending, no_output_ending}
use Rattle.racf_run.proofs.names.is_output_of.Goals as goal

pub returns-in-Some : goal.returns-in-Some
returns-in-Some c =
    let output = c.args.output.now in
    let ending : c.as_bytes-2.result.now ≡ codes ".out" = c.as_bytes-2.ensures.value in
    let is : c.as_bytes.result.now ≡ output = c.as_bytes.ensures.value in
    let ends : bytes_eq (drop (length output - 4) output) (codes ".out") ≡ true =
    subst (λ (e : List ℕ). bytes_eq (drop (length output - length e) output) e ≡ true) ending (subst (λ (o : List ℕ). bytes_eq (drop (length o - length c.as_bytes-2.result.now) o) c.as_bytes-2.result.now ≡ true) is c.in-Some.ensures.cases.0) in
    let front : c.in-Some.front.now ≡ take (length output - 4) output =
    subst (λ (e : List ℕ). c.in-Some.front.now ≡ take (length output - length e) output) ending (subst (λ (o : List ℕ). c.in-Some.front.now ≡ take (length o - length c.as_bytes-2.result.now) o) is c.in-Some.ensures.cases.1) in
    c.eq.ensures ∙ ap (bytes_eq c.in-Some.front.now) c.as_bytes-in-Some.ensures.value ∙ ap (λ f. bytes_eq f c.args.name.now) front ∙ output_ending c.args.name.now output ends

pub returns-in-None : goal.returns-in-None
returns-in-None c =
    let output = c.args.output.now in
    let ending : c.as_bytes-2.result.now ≡ codes ".out" = c.as_bytes-2.ensures.value in
    let is : c.as_bytes.result.now ≡ output = c.as_bytes.ensures.value in
    no_output_ending c.args.name.now output
    (subst (λ (e : List ℕ). bytes_eq (drop (length output - length e) output) e ≡ false) ending (subst (λ (o : List ℕ). bytes_eq (drop (length o - length c.as_bytes-2.result.now) o) c.as_bytes-2.result.now ≡ false) is c.in-None.ensures.cases))
