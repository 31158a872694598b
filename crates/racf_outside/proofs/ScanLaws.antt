-- The steps of the search for the end of a line.
use Rattle.std.proofs.Common.{ℕ, ◌+◌, ◌^◌, ◌<◌, ◌≤◌, ◌≡◌, ◌≢◌, eqb, ltb, Bool, true, false, cond, List, [], ◌∷◌, ◌++◌, length, take, drop, Option, None, Some, Ok, Err, refl, sym, ◌∙◌, ap, subst, arith, append_assoc, append-nil, length-append}
use Rattle.std.specs.Prelude.{slice_index, IfSome, ⊤}
use Rattle.std.specs.Io.BufRead.{strip_last}
use Rattle.std.specs.Io.KnownBytes.{prepend_known, IsAtEnd}
use Rattle.std.proofs.lemmas.Bool.{eqb-false, ltb-false, le-ltb, ne_eqb}
use Rattle.std.proofs.lemmas.List.{take_all, length-take-le}
use Rattle.std.proofs.lemmas.List.Elements.{All-append}
use Rattle.std.proofs.Math.Seq.{take-length}
use Rattle.racf_outside.specs.Blocks.{Block, Passes, unread_of}
use Rattle.racf_outside.specs.Lines as text
use Rattle.racf_outside.specs.LineBuffer.{Begun, IsBegun}
use Rattle.racf_outside.specs.Next.{TakesLine, end_of}
use Rattle.racf_outside.specs.Reader.{Reader, has_feed, KeepsSource}
use Rattle.racf_outside.specs.Scan.{TakesMore, TakesFeed, TakesNone, Pieces, Finds, IsScanned, IsFirstFeed, LiesAtHand, TakesHeld}
use Rattle.racf_outside.specs.declared.lines.LineFault.{LineFault}
use Rattle.racf_outside.specs.declared.lines.LineFault.TheVariants.{ReadFault, InputTooLong}
use Rattle.racf_outside.specs.declared.scanner.Found.{Found}
use Rattle.racf_outside.specs.declared.scanner.Found.TheVariants as found
use Rattle.racf_outside.proofs.LineLaws.{lines-feed, lines-last}
use Rattle.racf_outside.proofs.Rises.{Rose-later}
use Rattle.racf_outside.proofs.HeldLaws.{KeepsSource-then}
use Rattle.racf_outside.proofs.Bytes.{prepend-nil, prepend-twice, prepend-split, take-take-append, take-through, take-window}

-- what a block leaves behind goes before what is still to come
pub unread_of-pass : (n : ℕ) (block next : Block) → next.ready ≡ drop n block.ready → next.left ≡ block.left → unread_of block ≡ prepend_known (take n block.ready) (unread_of next)
unread_of-pass n block next ready left =
    prepend-split n block.ready block.left ∙ ap (prepend_known (take n block.ready)) (ap (λ bytes. prepend_known bytes block.left) (sym ready) ∙ ap (prepend_known next.ready) (sym left))

-- what isn't empty has a byte
pub some_ready : (shown ready : List ℕ) (empty : Bool) → empty ≡ eqb (length shown) 0 → empty ≡ false → shown ≡ ready → 0 < length ready
some_ready shown ready empty is other same =
    let no : length shown ≡ 0 → ⊥ = eqb-false (length shown) 0 (sym is ∙ other) in
    let e : length shown ≡ length ready = ap length same in
    omega arith

-- one byte too many
pub takes_too_far : (block next : Block) → 0 < length block.ready → next.ready ≡ drop 1 block.ready → next.left ≡ block.left → unread_of block ≡ prepend_known (slice_index block.ready 0 ∷ []) (unread_of next)
takes_too_far block next some ready left =
    unread_of-pass 1 block next ready left ∙ ap (λ bytes. prepend_known bytes (unread_of next)) (take-through block.ready 0 some)

-- a whole window
pub takes_window : (m : ℕ) (window : List ℕ) (block next : Block) → window ≡ take m block.ready → next.ready ≡ drop (length window) block.ready → next.left ≡ block.left → unread_of block ≡ prepend_known window (unread_of next)
takes_window m window block next is ready left =
    let whole : take (length window) (take m block.ready) ≡ take (length window) block.ready = take-window (length window) m block.ready (let e : length window ≡ length (take m block.ready) = ap length is in omega arith) in
    unread_of-pass (length window) block next ready left ∙ ap (λ bytes. prepend_known bytes (unread_of next)) (sym whole ∙ ap (take (length window)) (sym is) ∙ take-length window)

-- a window up to its first line feed
pub takes_to_feed : (m place : ℕ) (window : List ℕ) (block next : Block) → window ≡ take m block.ready → IsFirstFeed window place → next.ready ≡ drop (place + 1) block.ready → next.left ≡ block.left → unread_of block ≡ prepend_known (take place window ++ 10 ∷ []) (unread_of next)
takes_to_feed m place window block next is first ready left =
    let whole : take (place + 1) (take m block.ready) ≡ take (place + 1) block.ready = take-window (place + 1) m block.ready (let e : length window ≡ length (take m block.ready) = ap length is in let h : place < length window = first.within in omega arith) in
    unread_of-pass (place + 1) block next ready left ∙ ap (λ bytes. prepend_known bytes (unread_of next)) (sym whole ∙ ap (take (place + 1)) (sym is) ∙ take-through window place first.within ∙ ap (λ b. take place window ++ b ∷ []) first.here)

-- a line that has begun goes on
pub IsBegun-more : (raw piece : List ℕ) (line next : Begun) → IsBegun raw line → next.text ≡ take 4096 (line.text ++ piece) → next.size ≡ line.size + length piece → IsBegun (raw ++ piece) next
IsBegun-more raw piece line next b text size =
    record {
      text = text ∙ ap (λ front. take 4096 (front ++ piece)) b.text ∙ take-take-append 4096 raw piece;
      size = size ∙ ap (λ n. n + length piece) b.size ∙ sym (length-append raw piece);
    }

pub IsScanned-more : (raw piece : List ℕ) (old now next : Reader) (line line' : Begun) → IsScanned raw old now line → TakesMore piece now next line line' → now.faults ≤ next.faults → next.passed ≤ 2 ^ 28 → (has_feed now.held ≡ true → KeepsSource now next) → (has_feed now.held ≡ true → has_feed next.held ≡ true) → IsScanned (raw ++ piece) old next line'
IsScanned-more raw piece old now next line line' s t faults within keeps holds =
    record {
      was_going = s.was_going;
      goes_on = t.goes_on;
      no_fewer = omega (arith, s.no_fewer);
      within = within;
      no_feed = All-append (λ b. b ≢ 10) raw piece s.no_feed t.no_feed;
      taken = prepend-twice raw piece old.unread now.unread next.unread s.taken t.taken;
      counted = omega (arith, s.counted, t.counted, length-append raw piece);
      begun = IsBegun-more raw piece line line' s.begun t.text t.size;
      held = λ h. let on = s.held h in record { still = holds on.still; source = KeepsSource-then old now next on.source (keeps on.still) };
    }

-- the source was not read where the end of a line was at hand
pub scanned_held : (raw : List ℕ) (old now next : Reader) (line : Begun) → IsScanned raw old now line → (has_feed now.held ≡ true → KeepsSource now next) → has_feed old.held ≡ true → KeepsSource old next
scanned_held raw old now next line s keeps h = let on = s.held h in KeepsSource-then old now next on.source (keeps on.still)

-- the first of the lines of all bytes
first_of : (raw : List ℕ) (ended : Bool) (before after : Option (List ℕ)) → text.NoFeed raw → before ≡ prepend_known (raw ++ end_of ended) after → (ended ≡ true → 0 < length raw) → (ended ≡ true → IsAtEnd after) → IfSome before (λ bytes. IfSome after (λ rest. text.lines bytes ≡ text.line_of raw ∷ text.lines rest))
first_of raw ended before None h taken some at_end = subst (λ known. IfSome known (λ bytes. ⊤)) (sym taken) tt
first_of raw false before (Some rest) h taken some at_end =
    subst (λ known. IfSome known (λ bytes. text.lines bytes ≡ text.line_of raw ∷ text.lines rest)) (sym taken) (ap text.lines (append_assoc raw (10 ∷ []) rest) ∙ lines-feed raw rest h)
first_of raw true before (Some rest) h taken some at_end =
    let whole : (raw ++ []) ++ rest ≡ raw = ap (λ bs. (raw ++ []) ++ bs) (at_end refl) ∙ append-nil (raw ++ []) ∙ append-nil raw in
    subst (λ known. IfSome known (λ bytes. text.lines bytes ≡ text.line_of raw ∷ text.lines rest)) (sym taken) (ap text.lines whole ∙ lines-last raw h (some refl) ∙ ap (λ bs. text.line_of raw ∷ text.lines bs) (sym (at_end refl)))

-- no line is left in no bytes
pub none_of : (before after : Option (List ℕ)) → after ≡ before → IsAtEnd after → IfSome before (λ bytes. text.lines bytes ≡ [])
none_of before None e h = subst (λ known. IfSome known (λ bytes. text.lines bytes ≡ [])) e tt
none_of before (Some rest) e h = subst (λ known. IfSome known (λ bytes. text.lines bytes ≡ [])) e (ap text.lines h)

-- a line that was taken is the first
TakesLine-made : (raw : List ℕ) (old new : Reader) → old.ended ≡ false → text.NoFeed raw → old.unread ≡ prepend_known (raw ++ end_of new.ended) new.unread → new.passed ≡ old.passed + length (raw ++ end_of new.ended) → (new.ended ≡ true → 0 < length raw) → (new.ended ≡ true → IsAtEnd new.unread) → TakesLine raw old new
TakesLine-made raw old new begun no_feed taken counted some at_end =
    record {
      begun = begun;
      no_feed = no_feed;
      taken = taken;
      counted = counted;
      some = some;
      at_end = at_end;
      first = first_of raw new.ended old.unread new.unread no_feed taken some at_end;
    }

true_is_false : true ≡ false → ⊥
true_is_false e = cc

-- the reader over a block
abbrev pub reader_of : Block → Bool → ℕ → Reader
reader_of block ended passed =
    record {
      unread = unread_of block;
      left = block.left;
      held = block.ready;
      faults = block.faults;
      ended = ended;
      passed = passed;
    }

-- a line that lies whole in the block is the first
pub TakesHeld-made : (size : ℕ) (block next : Block) (ended : Bool) (passed : ℕ) → LiesAtHand (reader_of block ended passed) size → Passes (size + 1) block next → TakesHeld (take size block.ready) (reader_of block ended passed) (reader_of next ended (passed + (size + 1)))
TakesHeld-made size block next ended passed lies p =
    let raw = take size block.ready in
    let feed = lies.feed in
    let long : length raw ≡ size = length-take-le size block.ready (let h : size < length block.ready = feed.within in omega arith) in
    let taken : take (size + 1) block.ready ≡ raw ++ end_of ended =
    take-through block.ready size feed.within ∙ ap (λ b. raw ++ b ∷ []) feed.here ∙ ap (λ end. raw ++ end_of end) (sym lies.going) in
    record {
      line = TakesLine-made raw (reader_of block ended passed) (reader_of next ended (passed + (size + 1))) lies.going feed.none_before
          (unread_of-pass (size + 1) block next p.ready p.left ∙ ap (λ bytes. prepend_known bytes (unread_of next)) taken)
          (omega (arith, long, length-append raw (end_of ended), ap (λ end. length (end_of end)) lies.going))
          (λ at_end. absurd (true_is_false (sym at_end ∙ lies.going)))
          (λ at_end. absurd (true_is_false (sym at_end ∙ lies.going)));
      text = ap (λ b. cond b text.TooLong (text.Text (strip_last 13 raw))) (le-ltb 4096 (length raw) (omega (arith, long, lies.fits)));
      source = record { left = p.left; faults = p.faults };
      within = omega (arith, lies.within);
    }

-- what `line_found` answers, as a function of the size
abbrev pub kind_of : ℕ → Found
kind_of size = cond (ltb 4096 size) found.TooLong found.Text

Finds-kind : (raw : List ℕ) (old new : Reader) (line : Begun) (b : Bool) → ltb 4096 (length raw) ≡ b → TakesLine raw old new → IsBegun raw line → Finds (Ok (cond b found.TooLong found.Text)) old new line
Finds-kind raw old new line true e t begun = (raw, t, ap (λ b. cond b text.TooLong (text.Text (strip_last 13 raw))) e)
Finds-kind raw old new line false e t begun =
    (raw, t, ap (λ b. cond b text.TooLong (text.Text (strip_last 13 raw))) e ∙ ap (λ bytes. text.Text (strip_last 13 bytes)) (sym (begun.text ∙ take_all 4096 raw (ltb-false 4096 (length raw) e))))

pub Finds-line : (raw : List ℕ) (old new : Reader) (line : Begun) → TakesLine raw old new → IsBegun raw line → Finds (Ok (kind_of line.size)) old new line
Finds-line raw old new line t begun =
    let P : ℕ → Type 0 = λ size. Finds (Ok (kind_of size)) old new line in
    subst P (sym begun.size) (Finds-kind raw old new line (ltb 4096 (length raw)) refl t begun)

-- a line feed ends the line
pub Finds-feed : (raw piece : List ℕ) (old now next : Reader) (line line' : Begun) → IsScanned raw old now line → TakesFeed piece now next line line' → Finds (Ok (kind_of line'.size)) old next line'
Finds-feed raw piece old now next line line' s t =
    Finds-line (raw ++ piece) old next line'
    (
    TakesLine-made (raw ++ piece) old next s.was_going (All-append (λ b. b ≢ 10) raw piece s.no_feed t.no_feed)
    (prepend-twice raw (piece ++ 10 ∷ []) old.unread now.unread next.unread s.taken t.taken ∙ ap (λ bytes. prepend_known bytes next.unread) (sym (append_assoc raw piece (10 ∷ [])) ∙ ap (λ end. (raw ++ piece) ++ end_of end) (sym t.goes_on)))
    (omega (arith, s.counted, t.counted, length-append raw piece, length-append (raw ++ piece) (end_of next.ended), ap (λ end. length (end_of end)) t.goes_on))
    (λ ended. absurd (true_is_false (sym ended ∙ t.goes_on)))
    (λ ended. absurd (true_is_false (sym ended ∙ t.goes_on)))
    )
    (IsBegun-more raw piece line line' s.begun t.text t.size)

-- what `last_found` answers
abbrev pub last_kind_of : ℕ → Found
last_kind_of size = cond (eqb size 0) found.End (kind_of size)

last_kind_of-some : (size : ℕ) → 0 < size → last_kind_of size ≡ kind_of size
last_kind_of-some size some = ap (λ none. cond none found.End (kind_of size)) (ne_eqb size 0 (λ e. omega arith))

TakesLine-last : (raw : List ℕ) (old now next : Reader) (line line' : Begun) → 0 < length raw → IsScanned raw old now line → TakesNone now next line line' → TakesLine raw old next
TakesLine-last raw old now next line line' some s t =
    TakesLine-made raw old next s.was_going s.no_feed
    (s.taken ∙ ap (prepend_known raw) (sym t.kept) ∙ ap (λ bytes. prepend_known bytes next.unread) (sym (ap (λ end. raw ++ end_of end) t.ended ∙ append-nil raw)))
    (omega (arith, s.counted, t.counted, ap (λ end. length (raw ++ end_of end)) t.ended, ap length (append-nil raw)))
    (λ ended. some)
    (λ ended. t.at_end)

-- the input's end ends the line, if it has begun
pub Finds-last : (raw : List ℕ) (old now next : Reader) (line line' : Begun) → IsScanned raw old now line → TakesNone now next line line' → Finds (Ok (last_kind_of line'.size)) old next line'
Finds-last [] old now next line line' s t =
    let P : ℕ → Type 0 = λ size. Finds (Ok (last_kind_of size)) old next line' in
    let kept : next.unread ≡ old.unread = t.kept ∙ sym (s.taken ∙ prepend-nil now.unread) in
    subst P (sym (ap (λ l. l.size) t.line ∙ s.begun.size))
    (
    record {
      ended = t.ended;
      at_end = t.at_end;
      kept = kept;
      counted = omega (arith, s.counted, t.counted);
      none = none_of old.unread next.unread kept t.at_end;
    }
    )
Finds-last (b ∷ bs) old now next line line' s t =
    let begun : IsBegun (b ∷ bs) line' = subst (IsBegun (b ∷ bs)) (sym t.line) s.begun in
    let some : 0 < line'.size = omega (arith, begun.size) in
    subst (λ kind. Finds (Ok kind) old next line') (sym (last_kind_of-some line'.size some)) (Finds-line (b ∷ bs) old next line' (TakesLine-last (b ∷ bs) old now next line line' (omega arith) s t) begun)

-- a fault comes in the line's place
pub Finds-fault : (fault : LineFault) (raw : List ℕ) (old now next : Reader) (line line' : Begun) → IsScanned raw old now line → Pieces (Err fault) now next line line' → Finds (Err fault) old next line'
Finds-fault ReadFault raw old now next line line' s t = (
  raw,
  record {
    begun = s.was_going;
    no_feed = s.no_feed;
    taken = s.taken ∙ ap (prepend_known raw) (sym t.kept);
    counted = omega (arith, s.counted, t.counted);
    goes_on = t.goes_on;
    none_held = t.none_held;
    cause = Rose-later old.faults now.faults next.faults s.no_fewer t.cause;
  },
)
Finds-fault InputTooLong raw old now next line line' s t = (
  raw,
  t.0,
  record {
    begun = s.was_going;
    no_feed = s.no_feed;
    taken = prepend-twice raw (t.0 ∷ []) old.unread now.unread next.unread s.taken t.1.taken;
    limit = omega (arith, s.counted, t.1.limit);
    counted = omega (arith, t.1.counted, t.1.limit);
    goes_on = t.1.goes_on;
  },
)
