use Rattle.desk_rules.proofs.FeedlessOutcomes.{outcome-feedless, behind-feedless}
use Rattle.desk_rules.proofs.FeedlessReached.{reached-feedless}
use Rattle.desk_rules.proofs.laws.no_line_feed_is_told.Goals as goal

-- the fields of a command that a text spells are lawful
pub returns-clause-outcome : goal.returns-clause-outcome
returns-clause-outcome c =
    outcome-feedless (λ issuer text command is. c.fields_of_a_text_are_lawful.ensures issuer text command ((c.one_command_is_spelled.ensures.one issuer text command).1 is))

pub returns-clause-behind : goal.returns-clause-behind
returns-clause-behind c = behind-feedless

-- the records of a journal are of such fields, and of identifiers
pub returns-clause-reached : goal.returns-clause-reached
returns-clause-reached c =
    reached-feedless (λ issuer text command is. c.fields_of_a_text_are_lawful.ensures issuer text command (((c.canonical_texts_are_of_commands.ensures.one issuer text command).0 is).spells issuer))
    (λ id group issuer is. ((c.fields_are_of_identifiers.ensures.two id group issuer).0 is).0)
