-- Lists that are gathered item by item: what is there, and what those to come give, is all.
use Rattle.std.proofs.Common.{◌≡◌, List, [], ◌∷◌, ◌++◌, map, length, Some, None, refl, arith, append_assoc, append-nil}
use Rattle.std.specs.Prelude.{Option}
use Rattle.std.specs.List.{filter_map, cons_option}
use Rattle.std.specs.Option.{option_to_list}

in_front : {Y : Type 0} (item : Option Y) (items : List Y) → cons_option item items ≡ option_to_list item ++ items
in_front None items = refl
in_front (Some item) items = refl

module _ {X Y : Type 0} where
  pub one_more : (f : X → Y) (x : X) (y : Y) (done now : List Y) (rest left : List X) (all : List Y) → now ≡ done ++ y ∷ [] → y ≡ f x → rest ≡ x ∷ left → done ++ map f rest ≡ all → now ++ map f left ≡ all
  one_more f x y done now rest left all put is next goes = rw (put, is, append_assoc) (rw next at goes)

  pub no_more : (f : X → Y) (done : List Y) (rest : List X) (all : List Y) → length rest ≡ 0 → done ++ map f rest ≡ all → done ≡ all
  no_more f done [] all none goes = rw append-nil at goes
  no_more f done (x ∷ rest) all none goes = absurd (omega arith)

  pub maybe_more : (h : X → Option Y) (x : X) (y : Option Y) (done now : List Y) (rest left : List X) (all : List Y) → now ≡ done ++ option_to_list y → y ≡ h x → rest ≡ x ∷ left → done ++ filter_map h rest ≡ all
      → now ++ filter_map h left ≡ all
  maybe_more h x y done now rest left all put is next goes =
      rw (put, is, append_assoc, ← in_front (h x) (filter_map h left)) (rw next at goes)

  pub none_more : (h : X → Option Y) (done : List Y) (rest : List X) (all : List Y) → length rest ≡ 0 → done ++ filter_map h rest ≡ all → done ≡ all
  none_more h done [] all none goes = rw append-nil at goes
  none_more h done (x ∷ rest) all none goes = absurd (omega arith)
