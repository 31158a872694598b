-- Lists of names that are read are lawful.
use Rattle.std.proofs.Common.{◌≡◌, ℕ, List, [], ◌∷◌, ◌++◌, Some, Ok, subst}
use Rattle.command_words.specs.declared.quoting.Quoting.TheVariants.{Ignored}
use Rattle.command_words.specs.ValuedWords.{ValuedWord}
use Rattle.command_values.specs.declared.faults.Syntax.TheVariants as faults
use Rattle.command_values.specs.declared.value_kinds.ValueKind.{ValueKind}
use Rattle.command_values.specs.Results.{◌>>=◌, or_fault}
use Rattle.command_values.specs.WordsOfValues.{word_of}
use Rattle.command_values.specs.Values.{name_of, names, some_names}
use Rattle.command_values.specs.LawfulValues.{AreNames, IsNonEmpty}
use Rattle.command_values.proofs.Names.{name-again}
use Rattle.command_values.proofs.Outcomes.{bind-ok, or_fault-ok}

AreNames-push : (k : ValueKind) (front : List (List ℕ)) (x : List ℕ) → AreNames k front → name_of k x ≡ Some x → AreNames k (front ++ x ∷ [])
AreNames-push k [] x h one = (one, tt)
AreNames-push k (y ∷ front) x h one = (h.0, AreNames-push k front x h.1 one)

IsNonEmpty-push : (front : List (List ℕ)) (x : List ℕ) → IsNonEmpty (front ++ x ∷ [])
IsNonEmpty-push [] x = tt
IsNonEmpty-push (y ∷ front) x = tt

names-fit : (k : ValueKind) (front : List (List ℕ)) (is : List ValuedWord) (xs : List (List ℕ)) → names k front is ≡ Ok xs → IsNonEmpty front → AreNames k front → IsNonEmpty xs × AreNames k xs
names-fit k front [] xs h some are =
    let same : front ≡ xs = cc in
    subst (λ (ys : List (List ℕ)). IsNonEmpty ys × AreNames k ys) same (some, are)
names-fit k front (i ∷ is) xs h some are =
    let word = bind-ok (word_of Ignored i) (λ w. or_fault (name_of k w.1) (faults.BadValue w.0) >>= λ x. names k (front ++ x ∷ []) is) xs h in
    let read = bind-ok (or_fault (name_of k word.0.1) (faults.BadValue word.0.0)) (λ x. names k (front ++ x ∷ []) is) xs word.2 in
    let again = name-again k word.0.1 read.0 (or_fault-ok (name_of k word.0.1) (faults.BadValue word.0.0) read.0 read.1) in
    names-fit k (front ++ read.0 ∷ []) is xs read.2 (IsNonEmpty-push front read.0) (AreNames-push k front read.0 are again)

-- a list has one name at least
pub some_names-fit : (k : ValueKind) (p : ℕ) (is : List ValuedWord) (xs : List (List ℕ)) → some_names k p is ≡ Ok xs → IsNonEmpty xs × AreNames k xs
some_names-fit k p [] xs h = cc
some_names-fit k p (i ∷ is) xs h =
    let word = bind-ok (word_of Ignored i) (λ w. or_fault (name_of k w.1) (faults.BadValue w.0) >>= λ x. names k (x ∷ []) is) xs h in
    let read = bind-ok (or_fault (name_of k word.0.1) (faults.BadValue word.0.0)) (λ x. names k (x ∷ []) is) xs word.2 in
    let again = name-again k word.0.1 read.0 (or_fault-ok (name_of k word.0.1) (faults.BadValue word.0.0) read.0 read.1) in
    names-fit k (read.0 ∷ []) is xs read.2 tt (again, tt)
