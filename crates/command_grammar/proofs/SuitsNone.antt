-- Operands whose values depend on nothing in front of them.
use Rattle.std.proofs.Common.{◌≡◌, List, [], ◌∷◌, Bool, true, false, not, ◌&&◌, None, Some}
use Rattle.std.proofs.lemmas.Bool.{and_parts}
use Rattle.command_values.specs.declared.value_kinds.ValueKind.{ValueKind}
use Rattle.command_values.specs.declared.value_kinds.ValueKind.TheVariants as kinds
use Rattle.command_grammar.specs.declared.table.Operand.{Operand}
use Rattle.command_values.specs.declared.values.Content.{Content}
use Rattle.command_values.specs.declared.values.Known.{Known}
use Rattle.command_grammar.specs.Reading.{Slots}
use Rattle.command_values.specs.LawfulValues.{Suits}
use Rattle.command_grammar.specs.Lawful.{SuitsAll}

-- no operand of PERMIT depends on what stands in front
abbrev pub is_member_kind : ValueKind → Bool
is_member_kind kinds.AddedMembers = true
is_member_kind kinds.DroppedMembers = true
is_member_kind kinds.ClassProfile = true
is_member_kind kinds.AnyProfile = true
is_member_kind k = false

abbrev pub none_members : List Operand → Bool
none_members [] = true
none_members (o ∷ os) = not (is_member_kind o.kind) && none_members os

suits-any : (known : Known) (k : ValueKind) (v : Content) → not (is_member_kind k) ≡ true → Suits known k v
suits-any known kinds.Flag v h = tt
suits-any known kinds.Id v h = tt
suits-any known kinds.Group v h = tt
suits-any known kinds.Authority v h = tt
suits-any known kinds.Name v h = tt
suits-any known kinds.Ids v h = tt
suits-any known kinds.Classes v h = tt
suits-any known kinds.Level v h = tt
suits-any known kinds.Audit v h = tt
suits-any known kinds.Class v h = tt
suits-any known kinds.DataSetProfile v h = tt
suits-any known kinds.ClassProfile v h = cc
suits-any known kinds.AnyProfile v h = cc
suits-any known kinds.Reset v h = tt
suits-any known kinds.Whos v h = tt
suits-any known kinds.When v h = tt
suits-any known kinds.AddedMembers v h = cc
suits-any known kinds.DroppedMembers v h = cc
suits-any known kinds.Generic v h = tt
suits-any known kinds.Failures v h = tt
suits-any known kinds.LogOptions v h = tt
suits-any known kinds.Length v h = tt
suits-any known kinds.Truth v h = tt
suits-any known kinds.ClassNames v h = tt

pub suits-none : (known : Known) (os : List Operand) (ss : Slots) → none_members os ≡ true → SuitsAll known os ss
suits-none known [] ss h = tt
suits-none known (o ∷ os) [] h = tt
suits-none known (o ∷ os) (None ∷ ss) h = suits-none known os ss (and_parts (not (is_member_kind o.kind)) (none_members os) h).1
suits-none known (o ∷ os) (Some v ∷ ss) h =
    (suits-any known o.kind v (and_parts (not (is_member_kind o.kind)) (none_members os) h).0, suits-none known os ss (and_parts (not (is_member_kind o.kind)) (none_members os) h).1)
