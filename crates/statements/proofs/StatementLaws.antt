-- How the lines that the reader gives make a statement.
use Rattle.std.proofs.Common.{inl, inr, ◌≡◌, ℕ, ◌+◌, ◌<◌, ◌≤◌, Bool, true, false, List, [], ◌∷◌, ◌++◌, length, None, Some, refl, sym, ◌∙◌, ap, subst, arith, append_assoc, append-nil, length-append}
use Rattle.std.specs.Prelude.{Option, Result, Ok, Err, ◌⊎◌}
use Rattle.std.specs.Borrow.{Bor}
use Rattle.std.specs.Option.{option_to_list}
use Rattle.std.specs.Io.KnownBytes.{prepend_known}
use Rattle.racf_outside.specs.Lines.{Text, TooLong, line_of, NoFeed}
use Rattle.racf_outside.specs.Reader.{Reader}
use Rattle.racf_outside.specs.Next as line
use Rattle.racf_outside.specs.declared.lines.Line as next_line
use Rattle.racf_outside.specs.declared.lines.Line.TheVariants as next
use Rattle.racf_outside.specs.declared.lines.LineFault.{LineFault}
use Rattle.racf_outside.specs.declared.lines.LineFault.TheVariants as fault
use Rattle.statements.specs.declared.statement.Kind.{Kind}
use Rattle.statements.specs.declared.statement.Statement.{Statement}
use Rattle.statements.specs.declared.joining.LineRole.{LineRole}
use Rattle.statements.specs.declared.joining.LineRole.TheVariants.{Whole, GoesOn}
use Rattle.statements.specs.declared.stopping.Stop.{Stop}
use Rattle.statements.specs.declared.stopping.Stop.TheVariants as stop
use Rattle.statements.specs.Fronts.{Front}
use Rattle.statements.specs.declared.statement.Statement.TheVariants.{Command, LineTooLong}
use Rattle.statements.specs.Joining.{role_of, last_command}
use Rattle.statements.specs.NextStatement.{IsWalked, TakesStatements, TakesFront, TakesTooMuch, NextsStatement}
use Rattle.statements.specs.NextRole.{EndsCommand, GivesRole, NextsRole, ReadsRole, ReadsEnd}
use Rattle.statements.specs.Inputs.{statements_of}
use Rattle.statements.proofs.FrontLaws.{IsFront, IsFront-none, IsFront-more, IsFront-walked, IsFront-last_front, IsFront-last, IsFront-end, IsFront-none_whole, no_items}
use Rattle.racf_outside.proofs.Rises.{Rose-later}
use Rattle.racf_outside.proofs.Bytes.{prepend-append, prepend-nil}

-- Whether anything was read of the statement.
abbrev pub HasBegun : Option Front → List ℕ → Reader → Reader → Type 0
HasBegun None bytes old new = new ≡ old
HasBegun (Some front) bytes old new = (old.ended ≡ false) × (0 < length bytes)

-- The bytes of a statement that were read so far: none, or those of the front of a command.
pub record Taken (kind : Kind) (begun : Option Front) (old new : Reader) : Type 0 where
  pub bytes : List ℕ
  pub taken : old.unread ≡ prepend_known bytes new.unread
  pub counted : new.passed ≡ old.passed + length bytes
  pub has_begun : HasBegun begun bytes old new
  pub goes_on : new.ended ≡ false → IsFront kind bytes begun
  pub last : new.ended ≡ true → (statements_of kind).items bytes ≡ last_command begun

module _ (kind : Kind) where
  pub Taken-none : (reader : Reader) → Taken kind None reader reader
  Taken-none reader =
      record {
        bytes = [];
        taken = sym (prepend-nil reader.unread);
        counted = omega arith;
        has_begun = refl;
        goes_on = λ e. IsFront-none kind;
        last = λ e. no_items kind;
      }

  -- The reader had not ended when the statement began.
  had_begun : (begun : Option Front) (bytes : List ℕ) (old mid : Reader) → HasBegun begun bytes old mid → mid.ended ≡ false → old.ended ≡ false
  had_begun None bytes old mid h e = ap (λ (r : Reader). r.ended) (sym h) ∙ e
  had_begun (Some front) bytes old mid h e = h.0

  some_bytes : (bytes raw : List ℕ) (ended : Bool) → (ended ≡ true → 0 < length raw) → 0 < length (bytes ++ (raw ++ line.end_of ended))
  some_bytes bytes raw false some = omega (arith, length-append bytes (raw ++ 10 ∷ []), length-append raw (10 ∷ []))
  some_bytes bytes raw true some = omega (arith, length-append bytes (raw ++ []), length-append raw [], some refl)

  taken_more : (begun : Option Front) (old mid new : Reader) (more : List ℕ) → (w : Taken kind begun old mid) → mid.unread ≡ prepend_known more new.unread → old.unread ≡ prepend_known (w.bytes ++ more) new.unread
  taken_more begun old mid new more w h = w.taken ∙ ap (λ known. prepend_known w.bytes known) h ∙ sym (prepend-append w.bytes more new.unread)

  counted_more : (begun : Option Front) (old mid new : Reader) (more : List ℕ) → (w : Taken kind begun old mid) → new.passed ≡ mid.passed + length more → new.passed ≡ old.passed + length (w.bytes ++ more)
  counted_more begun old mid new more w h = omega (arith, h, w.counted, length-append w.bytes more)

  -- the line goes on
  front_on : (ended : Bool) (bytes raw : List ℕ) (begun : Option Front) (front : Front) → IsFront kind bytes begun → NoFeed raw → role_of kind begun (line_of raw) ≡ GoesOn front → ended ≡ false → IsFront kind (bytes ++ (raw ++ line.end_of ended)) (Some front)
  front_on false bytes raw begun front w h e is = IsFront-more kind bytes raw begun front w h e
  front_on true bytes raw begun front w h e is = cc

  front_last : (ended : Bool) (bytes raw : List ℕ) (begun : Option Front) (front : Front) → IsFront kind bytes begun → NoFeed raw → (ended ≡ true → 0 < length raw) → role_of kind begun (line_of raw) ≡ GoesOn front → ended ≡ true → (statements_of kind).items (bytes ++ (raw ++ line.end_of ended)) ≡ last_command (Some front)
  front_last false bytes raw begun front w h some e is = cc
  front_last true bytes raw begun front w h some e is =
      ap (λ bs. (statements_of kind).items (bytes ++ bs)) (append-nil raw) ∙ IsFront-last_front kind bytes raw begun front w h (some is) e

  Taken-more : (begun : Option Front) (front : Front) (raw : List ℕ) (old mid new : Reader) → Taken kind begun old mid → line.TakesLine raw mid new → role_of kind begun (line_of raw) ≡ GoesOn front → Taken kind (Some front) old new
  Taken-more begun front raw old mid new w t e =
      record {
        bytes = w.bytes ++ (raw ++ line.end_of new.ended);
        taken = taken_more begun old mid new (raw ++ line.end_of new.ended) w t.taken;
        counted = counted_more begun old mid new (raw ++ line.end_of new.ended) w t.counted;
        has_begun = (had_begun begun w.bytes old mid w.has_begun t.begun, some_bytes w.bytes raw new.ended t.some);
        goes_on = λ is. front_on new.ended w.bytes raw begun front (w.goes_on t.begun) t.no_feed e is;
        last = λ is. front_last new.ended w.bytes raw begun front (w.goes_on t.begun) t.no_feed t.some e is;
      }

  -- the line ends the statement, or is skipped
  walked_on : (ended : Bool) (bytes raw : List ℕ) (begun : Option Front) (item : Option Statement) → IsFront kind bytes begun → NoFeed raw → role_of kind begun (line_of raw) ≡ Whole item → ended ≡ false → IsWalked (statements_of kind) (bytes ++ (raw ++ line.end_of ended)) (option_to_list item)
  walked_on false bytes raw begun item w h e is = IsFront-walked kind bytes raw begun item w h e
  walked_on true bytes raw begun item w h e is = cc

  walked_last : (ended : Bool) (bytes raw : List ℕ) (begun : Option Front) (item : Option Statement) → IsFront kind bytes begun → NoFeed raw → (ended ≡ true → 0 < length raw) → role_of kind begun (line_of raw) ≡ Whole item → ended ≡ true → (statements_of kind).items (bytes ++ (raw ++ line.end_of ended)) ≡ option_to_list item
  walked_last false bytes raw begun item w h some e is = cc
  walked_last true bytes raw begun item w h some e is =
      ap (λ bs. (statements_of kind).items (bytes ++ bs)) (append-nil raw) ∙ IsFront-last kind bytes raw begun item w h (some is) e

  takes_line : (begun : Option Front) (item : Option Statement) (raw : List ℕ) (old mid new : Reader) → (w : Taken kind begun old mid) → line.TakesLine raw mid new → role_of kind begun (line_of raw) ≡ Whole item → TakesStatements (statements_of kind) (option_to_list item) (w.bytes ++ (raw ++ line.end_of new.ended)) old new
  takes_line begun item raw old mid new w t e =
      record {
        begun = had_begun begun w.bytes old mid w.has_begun t.begun;
        some = some_bytes w.bytes raw new.ended t.some;
        taken = taken_more begun old mid new (raw ++ line.end_of new.ended) w t.taken;
        counted = counted_more begun old mid new (raw ++ line.end_of new.ended) w t.counted;
        goes_on = λ is. walked_on new.ended w.bytes raw begun item (w.goes_on t.begun) t.no_feed e is;
        last = λ is. record { all = walked_last new.ended w.bytes raw begun item (w.goes_on t.begun) t.no_feed t.some e is; at_end = t.at_end is };
      }

  -- the input's end ends the statement
  end_items : (ended : Bool) (begun : Option Front) (old mid : Reader) → (w : Taken kind begun old mid) → mid.ended ≡ ended → (statements_of kind).items w.bytes ≡ last_command begun
  end_items false begun old mid w e = IsFront-end kind w.bytes begun (w.goes_on e)
  end_items true begun old mid w e = w.last e

  takes_command : (front : Front) (old mid new : Reader) → (w : Taken kind (Some front) old mid) → line.TakesEnd mid new → TakesStatements (statements_of kind) (Command front.text ∷ []) w.bytes old new
  takes_command front old mid new w t =
      record {
        begun = w.has_begun.0;
        some = w.has_begun.1;
        taken = w.taken ∙ ap (λ known. prepend_known w.bytes known) (sym t.kept);
        counted = t.counted ∙ w.counted;
        goes_on = λ is. cc (t.ended, is);
        last = λ is. record { all = end_items mid.ended (Some front) old mid w refl; at_end = t.at_end };
      }

  takes_end : (begun : Option Front) (item : Option Statement) (old mid new : Reader) → Taken kind begun old mid → EndsCommand begun (Whole item) mid new → (bytes : List ℕ) × TakesStatements (statements_of kind) (option_to_list item) bytes old new
  takes_end begun item old mid new w ends =
      let v : Taken kind (Some ends.front) old mid = subst (λ (b : Option Front). Taken kind b old mid) ends.is_begun w in
      let is : Some (Command ends.front.text) ≡ item = cc (ends.command) in
      (v.bytes, subst (λ (i : Option Statement). TakesStatements (statements_of kind) (option_to_list i) v.bytes old new) is (takes_command ends.front old mid new v ends.at_end))

  -- a statement came
  pub ends_item : (r : Result LineRole Stop) (begun : Option Front) (item : Option Statement) (old mid new : Reader) → Taken kind begun old mid → NextsRole kind r begun mid new → r ≡ Ok (Whole item) → NextsStatement kind (Ok item) old new
  ends_item r begun item old mid new w h e = by_way (subst (λ (x : Result LineRole Stop). NextsRole kind x begun mid new) e h)
    where
      by_way : GivesRole kind begun (Whole item) mid new ⊎ EndsCommand begun (Whole item) mid new → NextsStatement kind (Ok item) old new
      by_way way = elim way [ inl gives ↦ (w.bytes ++ (gives.raw ++ line.end_of new.ended), takes_line begun item gives.raw old mid new w gives.line gives.is_role) | inr ends ↦ takes_end begun item old mid new w ends ]

  -- the line goes on
  pub goes_on : (r : Result LineRole Stop) (begun : Option Front) (front : Front) (old mid new : Reader) → Taken kind begun old mid → NextsRole kind r begun mid new → r ≡ Ok (GoesOn front) → Taken kind (Some front) old new
  goes_on r begun front old mid new w h e = by_way (subst (λ (x : Result LineRole Stop). NextsRole kind x begun mid new) e h)
    where
      by_way : GivesRole kind begun (GoesOn front) mid new ⊎ EndsCommand begun (GoesOn front) mid new → Taken kind (Some front) old new
      by_way way = elim way [ inl gives ↦ Taken-more begun front gives.raw old mid new w gives.line gives.is_role | inr ends ↦ cc (ends.command) ]

  -- it took some bytes
  pub passes_more : (r : Result LineRole Stop) (begun : Option Front) (front : Front) (mid new : Reader) → NextsRole kind r begun mid new → r ≡ Ok (GoesOn front) → mid.passed < new.passed
  passes_more r begun front mid new h e = by_way (subst (λ (x : Result LineRole Stop). NextsRole kind x begun mid new) e h)
    where
      by_line : (raw : List ℕ) → line.TakesLine raw mid new → mid.passed < new.passed
      by_line raw t = omega (arith, t.counted, some_bytes [] raw new.ended t.some)

      by_way : GivesRole kind begun (GoesOn front) mid new ⊎ EndsCommand begun (GoesOn front) mid new → mid.passed < new.passed
      by_way way = elim way [ inl gives ↦ by_line gives.raw gives.line | inr ends ↦ cc (ends.command) ]

  -- no statement came
  takes_front : (begun : Option Front) (raw : List ℕ) (old mid new : Reader) → (w : Taken kind begun old mid) → old.faults ≤ mid.faults → line.TakesFront raw mid new → TakesFront (statements_of kind) (w.bytes ++ raw) old new
  takes_front begun raw old mid new w faults t =
      record {
        begun = had_begun begun w.bytes old mid w.has_begun t.begun;
        none = IsFront-none_whole kind w.bytes raw begun (w.goes_on t.begun) t.no_feed;
        taken = taken_more begun old mid new raw w t.taken;
        none_held = t.none_held;
        cause = Rose-later old.faults mid.faults new.faults faults t.cause;
      }

  takes_too_much : (begun : Option Front) (raw : List ℕ) (over : ℕ) (old mid new : Reader) → (w : Taken kind begun old mid) → line.TakesTooMuch raw over mid new → TakesTooMuch (statements_of kind) (w.bytes ++ raw) over old new
  takes_too_much begun raw over old mid new w t =
      record {
        begun = had_begun begun w.bytes old mid w.has_begun t.begun;
        none = IsFront-none_whole kind w.bytes raw begun (w.goes_on t.begun) t.no_feed;
        taken = taken_more begun old mid new (raw ++ over ∷ []) w t.taken ∙ ap (λ bs. prepend_known bs new.unread) (sym (append_assoc w.bytes raw (over ∷ [])));
        limit = omega (arith, t.limit, w.counted, length-append w.bytes raw);
      }

  takes_none : (old mid new : Reader) → Taken kind None old mid → line.TakesEnd mid new → line.TakesEnd old new
  takes_none old mid new w t = subst (λ (r : Reader). line.TakesEnd r new) w.has_begun t

  pub stops : (r : Result LineRole Stop) (why : Stop) (begun : Option Front) (old mid new : Reader) → Taken kind begun old mid → old.faults ≤ mid.faults → NextsRole kind r begun mid new → r ≡ Err why → NextsStatement kind (Err why) old new
  stops r why begun old mid new w faults h e = by_why why (subst (λ (x : Result LineRole Stop). NextsRole kind x begun mid new) e h)
    where
      by_why : (why : Stop) → NextsRole kind (Err why) begun mid new → NextsStatement kind (Err why) old new
      by_why stop.End h = takes_none old mid new (subst (λ (b : Option Front). Taken kind b old mid) h.0 w) h.1
      by_why stop.ReadFault h = (w.bytes ++ h.0, takes_front begun h.0 old mid new w faults h.1)
      by_why stop.InputTooLong h = (w.bytes ++ h.0, h.1, takes_too_much begun h.0 h.1 old mid new w h.2)
      by_why stop.NoMemory h = tt

  -- What the reader of lines answered is the role, or the stop, that follows from it.
  pub from_text : (r : Result next_line.Line LineFault) (shown : Bor (List ℕ)) (begun : Option Front) (read : Result LineRole Stop) (old new : Reader) → line.Nexts r old new → r ≡ Ok (next.Text shown) → ReadsRole kind read begun shown.now → NextsRole kind read begun old new
  from_text r shown begun read old new h e reads = by_read read reads
    where
      taken : (raw : List ℕ) × line.TakesLine raw old new × (line_of raw ≡ Text shown.now)
      taken = subst (λ x. line.Nexts x old new) e h

      by_read : (read : Result LineRole Stop) → ReadsRole kind read begun shown.now → NextsRole kind read begun old new
      by_read (Ok role) reads = inl (record { raw = taken.0; line = taken.1; is_role = ap (role_of kind begun) taken.2 ∙ sym reads })
      by_read (Err stop.End) reads = absurd reads
      by_read (Err stop.ReadFault) reads = absurd reads
      by_read (Err stop.InputTooLong) reads = absurd reads
      by_read (Err stop.NoMemory) reads = tt

  too_long : (begun : Option Front) → role_of kind begun TooLong ≡ Whole (Some LineTooLong)
  too_long None = refl
  too_long (Some front) = refl

  pub from_too_long : (r : Result next_line.Line LineFault) (begun : Option Front) (old new : Reader) → line.Nexts r old new → r ≡ Ok next.TooLong → NextsRole kind (Ok (Whole (Some LineTooLong))) begun old new
  from_too_long r begun old new h e =
      let taken : (raw : List ℕ) × line.TakesLine raw old new × (line_of raw ≡ TooLong) = subst (λ x. line.Nexts x old new) e h in
      inl (record { raw = taken.0; line = taken.1; is_role = ap (role_of kind begun) taken.2 ∙ too_long begun })

  pub from_end : (r : Result next_line.Line LineFault) (begun : Option Front) (read : Result LineRole Stop) (old new : Reader) → line.Nexts r old new → r ≡ Ok next.End → ReadsEnd read begun → NextsRole kind read begun old new
  from_end r begun read old new h e reads = by_read read reads
    where
      ended : line.TakesEnd old new
      ended = subst (λ x. line.Nexts x old new) e h

      by_read : (read : Result LineRole Stop) → ReadsEnd read begun → NextsRole kind read begun old new
      by_read (Ok role) reads = inr (record { front = reads.0; is_begun = reads.1; command = reads.2; at_end = ended })
      by_read (Err stop.End) reads = (reads, ended)
      by_read (Err stop.ReadFault) reads = absurd reads
      by_read (Err stop.InputTooLong) reads = absurd reads
      by_read (Err stop.NoMemory) reads = absurd reads

  pub from_read_fault : (r : Result next_line.Line LineFault) (begun : Option Front) (old new : Reader) → line.Nexts r old new → r ≡ Err fault.ReadFault → NextsRole kind (Err stop.ReadFault) begun old new
  from_read_fault r begun old new h e = subst (λ x. line.Nexts x old new) e h

  pub from_too_much : (r : Result next_line.Line LineFault) (begun : Option Front) (old new : Reader) → line.Nexts r old new → r ≡ Err fault.InputTooLong → NextsRole kind (Err stop.InputTooLong) begun old new
  from_too_much r begun old new h e = subst (λ x. line.Nexts x old new) e h
