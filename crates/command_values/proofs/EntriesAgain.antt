-- Users and groups, and ports of entry, are read again from how they are written.
use Rattle.std.proofs.Common.{◌≡◌, ℕ, suc, ◌+◌, List, [], ◌∷◌, ◌++◌, length, map, true, false, None, Some, Ok, refl, ap, ◌∙◌, arith, append_assoc, length-append}
use Rattle.std.specs.List.{list_all}
use Rattle.std.specs.Result.{result_ok}
use Rattle.access_levels.specs.declared.entries.Who.{Who}
use Rattle.access_levels.specs.declared.entries.Who.TheVariants.{Star, Named}
use Rattle.access_levels.specs.declared.entries.PortClass.{PortClass}
use Rattle.access_levels.specs.declared.entries.PortClass.TheVariants.{Terminal, Console, Jesinput, Appcport}
use Rattle.access_levels.specs.declared.entries.Condition.{Condition}
use Rattle.access_levels.specs.Level.{port_class_name}
use Rattle.access_levels.specs.Spelling.{id_of, port_class_of}
use Rattle.command_words.specs.declared.quoting.Quoting.TheVariants.{Ignored, Outside}
use Rattle.command_words.specs.Bytes.{upper}
use Rattle.command_words.specs.Tokens.{within, group_end, tokens}
use Rattle.command_words.specs.ValuedWords.{Valued, valued_words, faulty_at}
use Rattle.command_words.proofs.Letters.{is_letter, Outside-steady}
use Rattle.command_words.proofs.Spelled.{is_calm, word_alone, group_end-nested, calm-letters}
use Rattle.command_values.specs.declared.value_kinds.ValueKind.TheVariants as kinds
use Rattle.command_values.specs.Results.{◌>>=◌}
use Rattle.command_values.specs.WordsOfValues.{unless_stray}
use Rattle.command_values.specs.Entries.{more_whos_text, whos_text, port_name, port, port_text}
use Rattle.command_values.specs.Values.{name_of, more_text, ids_text}
use Rattle.command_values.specs.LawfulValues.{AreNames, AreNamed, AreWhos}
use Rattle.command_values.proofs.Names.{name-plain}
use Rattle.command_values.proofs.Patterns.{IsSome}
use Rattle.command_values.proofs.WordItems.{valued_items}

-- the names of users and groups
pub ids_of : List Who → List (List ℕ)
ids_of [] = []
ids_of (Star ∷ ws) = ids_of ws
ids_of (Named x ∷ ws) = x ∷ ids_of ws

named_ids : (ws : List Who) → AreNamed ws → map Named (ids_of ws) ≡ ws
unfolding ids_of
named_ids [] h = refl
named_ids (Star ∷ ws) h = absurd h
named_ids (Named x ∷ ws) h = ap (λ us. Named x ∷ us) (named_ids ws h.1)

names_named : (ws : List Who) → AreNamed ws → AreNames kinds.Ids (ids_of ws)
unfolding ids_of
names_named [] h = tt
names_named (Star ∷ ws) h = absurd h
names_named (Named x ∷ ws) h = (h.0, names_named ws h.1)

more_named : (ws : List Who) → AreNamed ws → more_whos_text ws ≡ more_text (ids_of ws)
unfolding ids_of
more_named [] h = refl
more_named (Star ∷ ws) h = absurd h
more_named (Named x ∷ ws) h = ap (λ bs. 32 ∷ (x ++ bs)) (more_named ws h.1)

-- users and groups as names
pub record AreListed (x : List ℕ) (ws : List Who) : Type 0 where
  pub others : List (List ℕ)
  pub whole : map Named (x ∷ others) ≡ Named x ∷ ws
  pub text : whos_text (Named x ∷ ws) ≡ ids_text (x ∷ others)
  pub named : AreNames kinds.Ids (x ∷ others)

pub listed : (x : List ℕ) (ws : List Who) → AreWhos (Named x ∷ ws) → AreListed x ws
listed x ws h =
    record {
      others = ids_of ws;
      whole = ap (λ us. Named x ∷ us) (named_ids ws h.1);
      text = ap (λ bs. x ++ bs) (more_named ws h.1);
      named = (h.0, names_named ws h.1);
    }

-- ports of entry
port_calm : (c : PortClass) → list_all is_calm (port_class_name c) ≡ true
port_calm Terminal = refl
port_calm Console = refl
port_calm Jesinput = refl
port_calm Appcport = refl

port_letters : (c : PortClass) → IsSome (port_class_name c) × (list_all is_letter (port_class_name c) ≡ true)
port_letters Terminal = (tt, refl)
port_letters Console = (tt, refl)
port_letters Jesinput = (tt, refl)
port_letters Appcport = (tt, refl)

port_named : (c : PortClass) (p : ℕ) → (faulty_at Ignored p (port_class_name c) ≡ None) × (port_class_of (map upper (port_class_name c)) ≡ Some c)
port_named Terminal p = (refl, refl)
port_named Console p = (refl, refl)
port_named Jesinput p = (refl, refl)
port_named Appcport p = (refl, refl)

port_name-again : (p n : ℕ) (x : List ℕ) → name_of kinds.Id x ≡ Some x → port_name p (valued_words (tokens (within n x))) ≡ Ok x
unfolding tokens
port_name-again p n [] h = let no : id_of [] ≡ Ok [] = (name-plain kinds.Id [] [] h).spelled in cc
port_name-again p n (b ∷ w) h =
    let plain = name-plain kinds.Id (b ∷ w) (b ∷ w) h in
    let sound : faulty_at Ignored (suc n) (b ∷ w) ≡ None = plain.sound (suc n) in
    let named : result_ok (id_of (map upper (b ∷ w))) ≡ Some (b ∷ w) = h in
    ap (λ ts. port_name p (valued_words ts)) (word_alone Outside Outside-steady false (suc n) b w plain.letters) ∙ rw (sound, named) refl

port_one : (p q n : ℕ) (name : List ℕ) (c : PortClass) (x : List ℕ) → name_of kinds.Id x ≡ Some x → faulty_at Ignored (suc q) name ≡ None → port_class_of (map upper name) ≡ Some c
    → port p (Valued (suc q) name (within n x) ∷ []) ≡ Ok (record { class = c; name = x })
port_one p q n name c x h sound class =
    rw (sound, class) (ap (λ r. (r >>= λ y. Ok (record { class = c; name = y })) >>= λ d. unless_stray None d) (port_name-again (suc q) n x h))

pub port_again : (p q : ℕ) (c : Condition) → name_of kinds.Id c.name ≡ Some c.name → port p (valued_words (tokens (within q (port_text c)))) ≡ Ok c
unfolding tokens
port_again p q c h =
    let name : List ℕ = port_class_name c.class in
    let letters = port_letters c.class in
    let named = port_named c.class (suc q) in
    ap (port p) (valued_items false (suc q) name c.name [] letters.0 letters.1 (calm-letters c.name (name-plain kinds.Id c.name c.name h).letters))
    ∙ port_one p q (suc q + length name) name c.class c.name h named.0 named.1

pub port_ends : (outer p : ℕ) (c : Condition) (rest : List ℕ) → name_of kinds.Id c.name ≡ Some c.name → group_end outer Outside 0 p (port_text c ++ 41 ∷ rest) ≡ Ok (p + length (port_text c))
port_ends outer p c rest h =
    let name : List ℕ = port_class_name c.class in
    let count : p + length name + length c.name + 2 ≡ p + length (port_text c) = omega (arith, length-append name (40 ∷ (c.name ++ 41 ∷ [])), length-append c.name (41 ∷ [])) in
    ap (λ bs. group_end outer Outside 0 p bs) (append_assoc name (40 ∷ (c.name ++ 41 ∷ [])) (41 ∷ rest) ∙ ap (λ bs. name ++ (40 ∷ bs)) (append_assoc c.name (41 ∷ []) (41 ∷ rest)))
    ∙ group_end-nested outer p name c.name (41 ∷ rest) (port_calm c.class) (calm-letters c.name (name-plain kinds.Id c.name c.name h).letters)
    ∙ ap Ok count
