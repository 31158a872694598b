-- For the layers above: a journal behind other bytes of a file.
use Rattle.std.proofs.Common.{ℕ, zero, ◌+◌, ◌-◌, ◌<◌, ◌≤◌, ◌≡◌, ◌∙◌, ◌^◌, true, ltb, List, [], ◌∷◌, ◌++◌, length, take, drop, Option, Ok, sym, ap, subst, arith, length-append}
use Rattle.std.specs.Prelude.{bytes_eq}
use Rattle.std.proofs.lemmas.List.{append-nil, drop_at, drop-drop, length-drop, length-take-le, take-append-drop}
use Rattle.std.proofs.lemmas.Bool.{lt-ltb, or_left}
use Rattle.racf_outside.specs.Disk.{History, Now}
use Rattle.racf_outside.specs.Moments.{Moment, durable}
use Rattle.racf_journal.specs.Kept.{IsAtRest}
use Rattle.racf_journal.specs.Reading.{Reading, magic, is_formatted, reading, IsEnd, spelled}
use Rattle.racf_journal.specs.Repair.{IsScanned, IsFound}
use Rattle.racf_journal.proofs.Opens.{reading-formatted}
use Rattle.racf_journal.proofs.Parts.{parts, formatted}

-- before a start behind place 8 nothing is asked
pub formatted_behind : (start : ℕ) (file : List ℕ) → 8 < start → is_formatted start file ≡ true
formatted_behind start file behind = or_left (ltb 8 start) (bytes_eq (take 8 file) magic) (lt-ltb 8 start behind)

-- a front, and one closed gate
pub empty_rests : (front : List ℕ) (start : ℕ) (m : Moment) → length front ≡ start → 8 < start → m ≡ durable (front ++ 0 ∷ []) → IsAtRest front start start [] m
empty_rests front start m from behind is = record {
  from = from;
  formatted = formatted_behind start front behind;
  to = omega arith;
  lawful = tt;
  is = is ∙ ap (λ (l : List ℕ). durable (l ++ 0 ∷ [])) (sym (append-nil front));
}

-- what is read of a file are whole records behind open gates, and an end
pub read_is_scanned : (start : ℕ) (file : List ℕ) (found : Reading) → reading start file ≡ Ok found → IsScanned start (drop start file) found.records found.gate
read_is_scanned start file found reads =
    let same : start + 0 ≡ start = omega arith in
    subst (λ p. IsScanned p (drop start file) found.records found.gate) same (parts zero start (drop start file) found (omega arith) (sym (reading-formatted start file (formatted start file found reads)) ∙ reads))

-- a disk that holds such a file, and nothing is in doubt
module _ (start : ℕ) (file : List ℕ) (found : Reading) (behind : 8 < start) (within : start ≤ length file) (reads : reading start file ≡ Ok found) where
  abbrev s : IsScanned start (drop start file) found.records found.gate
  s = read_is_scanned start file found reads

  pub end_is : drop found.gate file ≡ s.end
  end_is =
      let n : found.gate ≡ start + (found.gate - start) = omega (arith, s.to) in
      ap (λ k. drop k file) n ∙ sym (drop-drop (found.gate - start) start file) ∙ ap (drop (found.gate - start)) s.split ∙ drop_at (spelled found.records) s.end (found.gate - start) (omega (arith, s.to))

  size_is : found.gate + length s.end ≡ length file
  size_is = omega (arith, s.to, ap length s.split, length-append (spelled found.records) s.end, length-drop start file, within)

  pub file_is_found : (end : List ℕ) (told : Option History) → length file < 2 ^ 64 → end ≡ drop found.gate file → Now told (λ m. m ≡ durable file) → IsFound start found.gate found.records end told
  file_is_found end told room end_of holds = let same : end ≡ s.end = end_of ∙ end_is in record {
    to = s.to;
    lawful = s.lawful;
    ends = subst IsEnd (sym same) s.ends;
    room = omega (arith, room, size_is, ap length same);
    held = λ h e. record {
      front = take start file;
      from = length-take-le start file within;
      formatted = formatted_behind start (take start file) behind;
      is = holds h e ∙ ap durable (sym (take-append-drop start file) ∙ ap (λ (l : List ℕ). take start file ++ l) (s.split ∙ ap (λ (l : List ℕ). spelled found.records ++ l) (sym same)));
    };
  }
