-- A word without a letter to be folded is its own folding.
use Rattle.std.proofs.Common.{◌≡◌, ◌==◌, ◌∙◌, ℕ, true, List, [], ◌∷◌, Some, Ok, refl, ap}
use Rattle.std.specs.List.{list_all}
use Rattle.std.proofs.lemmas.Bool.{and_parts, eqb-true}
use Rattle.command_words.specs.Bytes.{upper}
use Rattle.std.specs.Result.{result_ok}
use Rattle.access_levels.specs.Spelling.{id_of}
use Rattle.command_values.specs.NamedWords.{id_named}
use Rattle.command_values.proofs.Names.{id_of-ok, plain_name}
use Rattle.request_files.specs.Spellings.{folded}

pub folded_stays : (text : List ℕ) → list_all (λ byte. upper byte == byte) text ≡ true → folded text ≡ text
folded_stays [] all = refl
folded_stays (byte ∷ text) all =
    let parts = and_parts (upper byte == byte) (list_all (λ byte. upper byte == byte) text) all in
    ap (λ b. b ∷ folded text) (eqb-true (upper byte) byte parts.0) ∙ ap (λ rest. byte ∷ rest) (folded_stays text parts.1)

-- so does a word that is an ID as it stands
pub id_stays : (word id : List ℕ) → id_of word ≡ Ok id → id_named word ≡ Some id
id_stays word id is =
    let same : id ≡ word = (id_of-ok word id is).0 in
    let plain = plain_name word (is ∙ ap (λ name. Ok name) same) in
    ap (λ text. result_ok (id_of text)) plain.folded ∙ ap result_ok is
