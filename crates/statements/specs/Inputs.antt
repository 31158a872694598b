-- The statements of a whole input, by its kind.
use Rattle.racf_outside.specs.Lines.{lines, whole_lines}
use Rattle.statements.specs.declared.statement.Kind.{Kind}
use Rattle.statements.specs.declared.statement.Kind.TheVariants as kind
use Rattle.statements.specs.declared.statement.Statement.{Statement}
use Rattle.statements.specs.Joining.{items_of, whole_items_of}
use Rattle.statements.specs.Runs.{Input}

-- the statements of an input of this kind are those of its lines
unfoldable pub statements_of : Kind → Input Statement
statements_of kind = record {
  items = λ bytes. items_of kind (lines bytes);
  whole_items = λ bytes. whole_items_of kind (whole_lines bytes);
}

-- those of a stream
abbrev pub statements : Input Statement
statements = statements_of kind.Stream

-- those of a deck
abbrev pub deck_statements : Input Statement
deck_statements = statements_of kind.Deck
