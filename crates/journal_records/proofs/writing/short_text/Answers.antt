use Rattle.std.proofs.Common.{◌≤◌, List, ℕ, length, refl, sym, subst}
use Rattle.journal_records.proofs.writing.short_text.Goals as goal

pub returns-clause-short : goal.returns-clause-short
returns-clause-short c =
    let short = c.canonical_texts_are_of_commands.ensures.most _ _ (record { canonic = refl; spells = c.printed_is_read.ensures }) in
    subst (λ (t : List ℕ). length t ≤ 30000) (sym c.text.ensures) short
