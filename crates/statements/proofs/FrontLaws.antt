-- What lines make of the bytes that were read before them, the front of a command among these.
use Rattle.std.proofs.Common.{◌≡◌, ℕ, ◌<◌, List, [], ◌∷◌, ◌++◌, length, None, Some, refl, sym, ◌∙◌, ap, append_assoc, append-nil}
use Rattle.std.specs.Prelude.{Option}
use Rattle.std.specs.Option.{option_to_list}
use Rattle.racf_outside.specs.Lines.{line_of, lines, whole_lines, NoFeed}
use Rattle.racf_outside.proofs.LineLaws as laws
use Rattle.statements.specs.declared.statement.Kind.{Kind}
use Rattle.statements.specs.declared.statement.Statement.{Statement}
use Rattle.statements.specs.declared.joining.LineRole.TheVariants.{Whole, GoesOn}
use Rattle.statements.specs.Fronts.{Front}
use Rattle.statements.specs.Joining.{role_of, ending, going, items_behind, last_command, not_begun}
use Rattle.statements.specs.NextStatement.{IsWalked}
use Rattle.statements.specs.Inputs.{statements_of}

-- The bytes end with the front of a command, or in no command, and no statement ends in them: whatever comes next, the
-- statements are those of what comes behind that front.
pub record IsFront (kind : Kind) (bytes : List ℕ) (begun : Option Front) : Type 0 where
  pub whole : (more : List ℕ) → (statements_of kind).whole_items (bytes ++ more) ≡ items_behind kind not_begun begun (whole_lines more)
  pub all : (more : List ℕ) → (statements_of kind).items (bytes ++ more) ≡ items_behind kind last_command begun (lines more)

module _ (kind : Kind) where
  pub IsFront-none : IsFront kind [] None
  unfolding statements_of
  IsFront-none = record { whole = λ more. refl; all = λ more. refl }

  line_first : (bytes raw more : List ℕ) → (bytes ++ (raw ++ 10 ∷ [])) ++ more ≡ bytes ++ (raw ++ 10 ∷ more)
  line_first bytes raw more = append_assoc bytes (raw ++ 10 ∷ []) more ∙ ap (λ bs. bytes ++ bs) (append_assoc raw (10 ∷ []) more)

  -- a line behind the front
  whole_behind : (bytes raw : List ℕ) (begun : Option Front) → IsFront kind bytes begun → NoFeed raw → (more : List ℕ) → (statements_of kind).whole_items ((bytes ++ (raw ++ 10 ∷ [])) ++ more) ≡ option_to_list (ending (role_of kind begun (line_of raw))) ++ items_behind kind not_begun (going (role_of kind begun (line_of raw))) (whole_lines more)
  whole_behind bytes raw begun w h more =
      ap (statements_of kind).whole_items (line_first bytes raw more) ∙ w.whole (raw ++ 10 ∷ more) ∙ ap (items_behind kind not_begun begun) (laws.whole_lines-feed raw more h)

  all_behind : (bytes raw : List ℕ) (begun : Option Front) → IsFront kind bytes begun → NoFeed raw → (more : List ℕ) → (statements_of kind).items ((bytes ++ (raw ++ 10 ∷ [])) ++ more) ≡ option_to_list (ending (role_of kind begun (line_of raw))) ++ items_behind kind last_command (going (role_of kind begun (line_of raw))) (lines more)
  all_behind bytes raw begun w h more =
      ap (statements_of kind).items (line_first bytes raw more) ∙ w.all (raw ++ 10 ∷ more) ∙ ap (items_behind kind last_command begun) (laws.lines-feed raw more h)

  -- the line goes on
  pub IsFront-more : (bytes raw : List ℕ) (begun : Option Front) (front : Front) → IsFront kind bytes begun → NoFeed raw → role_of kind begun (line_of raw) ≡ GoesOn front → IsFront kind (bytes ++ (raw ++ 10 ∷ [])) (Some front)
  IsFront-more bytes raw begun front w h e =
      record {
        whole = λ more. rw e at (whole_behind bytes raw begun w h more);
        all = λ more. rw e at (all_behind bytes raw begun w h more);
      }

  -- the line ends what was begun
  pub IsFront-walked : (bytes raw : List ℕ) (begun : Option Front) (item : Option Statement) → IsFront kind bytes begun → NoFeed raw → role_of kind begun (line_of raw) ≡ Whole item → IsWalked (statements_of kind) (bytes ++ (raw ++ 10 ∷ [])) (option_to_list item)
  unfolding statements_of
  IsFront-walked bytes raw begun item w h e =
      record {
        whole = λ more. rw e at (whole_behind bytes raw begun w h more);
        all = λ more. rw e at (all_behind bytes raw begun w h more);
      }

  -- The input ends behind a line without a feed.
  last_behind : (bytes raw : List ℕ) (begun : Option Front) → IsFront kind bytes begun → NoFeed raw → 0 < length raw → (statements_of kind).items (bytes ++ raw) ≡ option_to_list (ending (role_of kind begun (line_of raw))) ++ last_command (going (role_of kind begun (line_of raw)))
  last_behind bytes raw begun w h some = w.all raw ∙ ap (items_behind kind last_command begun) (laws.lines-last raw h some)

  pub IsFront-last_front : (bytes raw : List ℕ) (begun : Option Front) (front : Front) → IsFront kind bytes begun → NoFeed raw → 0 < length raw → role_of kind begun (line_of raw) ≡ GoesOn front → (statements_of kind).items (bytes ++ raw) ≡ last_command (Some front)
  IsFront-last_front bytes raw begun front w h some e = rw e at (last_behind bytes raw begun w h some)

  pub IsFront-last : (bytes raw : List ℕ) (begun : Option Front) (item : Option Statement) → IsFront kind bytes begun → NoFeed raw → 0 < length raw → role_of kind begun (line_of raw) ≡ Whole item → (statements_of kind).items (bytes ++ raw) ≡ option_to_list item
  IsFront-last bytes raw begun item w h some e =
      let all : (statements_of kind).items (bytes ++ raw) ≡ option_to_list item ++ [] = rw e at (last_behind bytes raw begun w h some) in
      all ∙ append-nil (option_to_list item)

  -- The input ends behind the front.
  pub IsFront-end : (bytes : List ℕ) (begun : Option Front) → IsFront kind bytes begun → (statements_of kind).items bytes ≡ last_command begun
  IsFront-end bytes begun w = ap (statements_of kind).items (sym (append-nil bytes)) ∙ w.all []

  -- No statement ends in a front and the front of a line.
  pub IsFront-none_whole : (bytes raw : List ℕ) (begun : Option Front) → IsFront kind bytes begun → NoFeed raw → (statements_of kind).whole_items (bytes ++ raw) ≡ []
  IsFront-none_whole bytes raw begun w h = w.whole raw ∙ ap (items_behind kind not_begun begun) (laws.whole_lines-front raw h)

  pub no_items : (statements_of kind).items [] ≡ []
  unfolding statements_of
  no_items = refl
