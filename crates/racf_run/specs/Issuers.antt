-- Who gives the commands, by the words of the command line: `--issuer ID` behind the verb fixes him.
use Rattle.std.specs.Prelude.{ℕ, Bool, List, Option, codes}
use Rattle.std.specs.Option.{option_map}
use Rattle.std.specs.Str.{bytes_eq}
use Rattle.command_values.specs.NamedWords.{id_named}
use Rattle.statements.specs.declared.issuer.Issuing.{Issuing}
use Rattle.statements.specs.declared.issuer.Issuing.TheVariants.{Fixed}

abbrev pub is_issuer_word : List ℕ → Bool
is_issuer_word word = bytes_eq word (codes "--issuer")

-- The user of this ID alone. Letters are folded to upper case; without lawful spelling it names nobody.
abbrev pub fixed_issuer : List ℕ → Option Issuing
fixed_issuer word = option_map Fixed (id_named word)
