-- The text of each reply to a command or to the line of an issuer.
use Rattle.std.specs.Prelude.{ℕ, Bool, true, false, List, ◌++◌, codes, decimal}
use Rattle.desk_rules.specs.Words as words
use Rattle.statements.specs.declared.reply.Refusal.{Refusal}
use Rattle.statements.specs.declared.reply.Refusal.TheVariants as refusal
use Rattle.statements.specs.declared.reply.Reply.{Reply}
use Rattle.statements.specs.declared.reply.Reply.TheVariants.{Accepted, Refused, DiskFault, Halted}

-- why a line was refused
abbrev pub refusal_words : Refusal → List ℕ
refusal_words (refusal.Command why) = words.refusal_words why
refusal_words refusal.LineTooLong = codes "LINETOOLONG"
refusal_words refusal.IssuerFixed = codes "ISSUERFIXED"

abbrev pub reply_words : Reply → List ℕ
reply_words Accepted = codes "ACCEPTED"
reply_words DiskFault = codes "DISKFAULT"
reply_words Halted = codes "HALTED"
reply_words (Refused why) = codes "REFUSED " ++ refusal_words why

abbrev pub is_refused : Reply → Bool
is_refused Accepted = false
is_refused DiskFault = false
is_refused Halted = false
is_refused (Refused why) = true

-- The longest of the words that refuse nothing, and of their lines: twenty digits, a blank, the words and a line feed.
abbrev pub longest_words : ℕ
longest_words = 9

abbrev pub longest_line : ℕ
longest_line = 31

-- A line is printed for each: the number, a blank, and the words.
unfoldable pub reply_line : ℕ → Reply → List ℕ
reply_line number reply = decimal number ++ codes " " ++ reply_words reply ++ codes "\n"
