use Rattle.std.proofs.Common.{◌≡◌, [], length}
use Rattle.command_words.specs.Tokens.{tokens}
use Rattle.command_words.specs.ValuedWords.{valued_words}
use Rattle.command_values.specs.Members.{member_in, each_of}
use Rattle.command_values.proofs.members.each_member.Given as goal

abbrev pub invariant-loop-item : goal.invariant-loop-item
invariant-loop-item l = each_of (member_in l.form) l.members.items (valued_words (tokens l.left)) ≡ each_of (member_in l.form) [] (valued_words (tokens l.fn.inner))

abbrev pub decreases-loop-item : goal.decreases-loop-item
decreases-loop-item l = length (valued_words (tokens l.left))
