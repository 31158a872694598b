-- What a run of files says under their names, and what its faults come of.
use Rattle.std.proofs.Common.{◌≡◌, ◌≢◌, ◌≤◌, ◌<◌, ◌+◌, ℕ, suc, Bool, true, false, ◌&&◌, List, [], ◌∷◌, ◌++◌, length, map, take, drop, refl, sym, ◌∙◌, ap, subst, arith, inl, inr, ⊎_elim}
use Rattle.std.specs.Prelude.{◌⊎◌, Option, IfSome, is_some, nat_le, nat_lt, cond}
use Rattle.std.specs.List.{All, sum_by}
use Rattle.std.proofs.lemmas.Bool.{leb-true, false≢true}
use Rattle.std.proofs.lemmas.List.{map-append, length-map, length-take-le, take_all, take-append-drop}
use Rattle.std.proofs.lemmas.List.Sums.{sum_by-cons}
use Rattle.racf_outside.specs.Causes.{Rose}
use Rattle.racf_outside.specs.Disk.{History}
use Rattle.racf_outside.specs.Shelf.{told}
use Rattle.racf_outside.proofs.Rises.{Rose-later}
use Rattle.racf_checkpoint.specs.Stored.{pick}
use Rattle.desk_rules.specs.Position.{Position}
use Rattle.command_history.specs.declared.events.Accepted.{Accepted}
use Rattle.command_history.specs.declared.events.Event.{Event}
use Rattle.command_history.specs.Events.{all_of}
use Rattle.command_history.specs.Reached.{reached, AreLegal}
use Rattle.racroute.specs.Disks.{StandAt, StaysAlong}
use Rattle.statements.specs.Status.{code_of}
use Rattle.statements.specs.declared.issuer.Issuing.{Issuing}
use Rattle.statements.specs.declared.status.Status.{Status}
use Rattle.statements.specs.declared.status.Status.TheVariants.{Done, Usage, ReadFault, WriteFault, DiskFault, NotFormatted, Damaged, NoMemory, InputTooLong}
use Rattle.statements.specs.Runs.{longest_input}
use Rattle.racf_threads.specs.Outputs.{DeckRan, FileRan, StopsFor}
use Rattle.racf_threads.specs.Together.{Worked, HasStopped, AreDecks, AreFiles, RunsTogether, greater, greatest}
use Rattle.racf_run.proofs.OpeningLaws.{AreNew-length}
use Rattle.racf_run.specs.Opening.{output_name, is_among, are_distinct, IsNew, AreNew, AreKept, OthersStay, RoseFor, reads_of, writes_of}
use Rattle.racf_run.specs.Racf.{IsUnsound, OpensNone, OpenedDisks, RoseEither, FaultCounts}
use Rattle.racf_run.specs.Running.{are_run_words, are_apart, Named, NamedStops, DecksNamed, FilesNamed, NamedRan, unopened_status}
use Rattle.racf_run.specs.declared.opening.Unopened.{Unopened}
use Rattle.racf_run.specs.declared.opening.Unopened.TheVariants.{Input, Output}

-- ---- the words
both : (a b : Bool) → (a && b) ≡ true → (a ≡ true) × (b ≡ true)
both true b h = (refl, h)
both false b h = absurd (false≢true h)

-- what the words of a run have
pub record HasForm (decks : ℕ) (names : List (List ℕ)) : Type 0 where
  pub some : 1 ≤ decks
  pub few_decks : decks ≤ 4
  pub are_there : decks ≤ length names
  pub few : length names ≤ decks + 16
  pub distinct : are_distinct names ≡ true

pub form_of : (decks : ℕ) (names : List (List ℕ)) → are_run_words decks names ≡ true → HasForm decks names
form_of decks names h =
    let one = both _ (are_apart (map output_name names) names) h in
    let two = both _ (are_distinct names) one.0 in
    let three = both _ (nat_le (length names) (decks + 16)) two.0 in
    let four = both _ (nat_le decks (length names)) three.0 in
    let five = both (nat_le 1 decks) (nat_le decks 4) four.0 in
    record {
      some = leb-true 1 decks five.0;
      few_decks = leb-true decks 4 five.1;
      are_there = leb-true decks (length names) four.1;
      few = leb-true (length names) (decks + 16) three.1;
      distinct = two.1;
    }

-- ---- statuses
greater_is : (a b s : Status) → greater a b ≡ s → (a ≡ s) ⊎ (b ≡ s)
greater_is a b s h = either (nat_lt (code_of a) (code_of b)) h
  where
    either : (t : Bool) → cond t b a ≡ s → (a ≡ s) ⊎ (b ≡ s)
    either true k = inr k
    either false k = inl k

rose_from_none : (now : ℕ) → Rose 0 now → 0 < now
rose_from_none now rose = grind arith

-- the status tells what couldn't be opened
pub input_of : (why : Unopened) → unopened_status why ≡ ReadFault → why ≡ Input
input_of Input e = refl
input_of Output e = absurd (other e)
  where
    other : WriteFault ≡ ReadFault → ⊥
    other f = cc

pub output_of : (why : Unopened) → unopened_status why ≡ WriteFault → why ≡ Output
output_of Output e = refl
output_of Input e = absurd (other e)
  where
    other : ReadFault ≡ WriteFault → ⊥
    other f = cc

pub unopened_ends : (why : Unopened) → (unopened_status why ≢ Usage) × (unopened_status why ≢ DiskFault)
unopened_ends Input = (λ (e : ReadFault ≡ Usage). cc, λ (e : ReadFault ≡ DiskFault). cc)
unopened_ends Output = (λ (e : WriteFault ≡ Usage). cc, λ (e : WriteFault ≡ DiskFault). cc)

-- Counted from before on, and of the first ones and of those behind.
pub RoseFor-earlier : {A : Type 0} (faults : A → ℕ) (a b c : ℕ) (items : List A) → a ≤ b → RoseFor faults b c items → RoseFor faults a c items
RoseFor-earlier faults a b c [] le rose = tt
RoseFor-earlier faults a b c (x ∷ items) le rose = (λ some. Rose-later a b c le (rose.0 some), RoseFor-earlier faults a b c items le rose.1)

RoseFor-split : {A : Type 0} (faults : A → ℕ) (a b : ℕ) (xs ys : List A) → RoseFor faults a b (xs ++ ys) → RoseFor faults a b xs × RoseFor faults a b ys
RoseFor-split faults a b [] ys rose = (tt, rose)
RoseFor-split faults a b (x ∷ xs) ys rose =
    let rest = RoseFor-split faults a b xs ys rose.1 in ((rose.0, rest.0), rest.1)

-- ---- files and names
module _ {I K : Type 0} (left : I → Option (List ℕ)) (reads : I → ℕ) (taken : K → Option (List ℕ)) (writes : K → ℕ) (tells : Bool) (input output : List ℕ → Option (List ℕ)) where
  -- those in front, and those behind
  AreNew-split : (names : List (List ℕ)) (xs ys : List (I × K)) → AreNew left reads taken writes tells input names (xs ++ ys)
      → AreNew left reads taken writes tells input (take (length xs) names) xs × AreNew left reads taken writes tells input (drop (length xs) names) ys
  AreNew-split names [] ys h = (tt, h)
  AreNew-split (name ∷ names) (x ∷ xs) ys h = let rest = AreNew-split names xs ys h.1 in ((h.0, rest.0), rest.1)
  AreNew-split [] (x ∷ xs) ys h = absurd h

  AreKept-split : (names : List (List ℕ)) (xs ys : List (I × K)) → AreKept taken output names (xs ++ ys) → AreKept taken output (take (length xs) names) xs × AreKept taken output (drop (length xs) names) ys
  AreKept-split names [] ys h = (tt, h)
  AreKept-split (name ∷ names) (x ∷ xs) ys h = let rest = AreKept-split names xs ys h.1 in ((h.0, rest.0), rest.1)
  AreKept-split [] (x ∷ xs) ys h = absurd h

-- workers under these names
abbrev named : {I K : Type 0} → (reads : I → ℕ) → (writes : K → ℕ) → List (List ℕ) → List (Worked I K) → List Named
named reads writes [] workers = []
named reads writes (name ∷ names) [] = []
named reads writes (name ∷ names) (w ∷ workers) =
    record { name = name; status = w.status; faults = w.faults; reads = reads w.back.0; writes = writes w.back.1 } ∷ named reads writes names workers

module _ {I K : Type 0} (left : I → Option (List ℕ)) (reads : I → ℕ) (taken : K → Option (List ℕ)) (writes : K → ℕ) (tells : Bool) (input output : List ℕ → Option (List ℕ)) where
  named_names : (names : List (List ℕ)) (ws : List (Worked I K)) → AreNew left reads taken writes tells input names (map (λ w. w.given) ws) → map (λ w. w.name) (named reads writes names ws) ≡ names
  named_names [] [] h = refl
  named_names (name ∷ names) (w ∷ ws) h = ap (λ ns. name ∷ ns) (named_names names ws h.1)
  named_names [] (w ∷ ws) h = absurd h
  named_names (name ∷ names) [] h = absurd h

  named_statuses : (names : List (List ℕ)) (ws : List (Worked I K)) → AreNew left reads taken writes tells input names (map (λ w. w.given) ws) → map (λ w. w.status) (named reads writes names ws) ≡ map (λ (w : Worked I K). w.status) ws
  named_statuses [] [] h = refl
  named_statuses (name ∷ names) (w ∷ ws) h = ap (λ ss. w.status ∷ ss) (named_statuses names ws h.1)
  named_statuses [] (w ∷ ws) h = absurd h
  named_statuses (name ∷ names) [] h = absurd h

  named_reads : (names : List (List ℕ)) (ws : List (Worked I K)) → AreNew left reads taken writes tells input names (map (λ w. w.given) ws) → map (λ w. w.reads) (named reads writes names ws) ≡ reads_of reads (map (λ (w : Worked I K). w.back) ws)
  named_reads [] [] h = refl
  named_reads (name ∷ names) (w ∷ ws) h = ap (λ ns. reads w.back.0 ∷ ns) (named_reads names ws h.1)
  named_reads [] (w ∷ ws) h = absurd h
  named_reads (name ∷ names) [] h = absurd h

  named_writes : (names : List (List ℕ)) (ws : List (Worked I K)) → AreNew left reads taken writes tells input names (map (λ w. w.given) ws) → map (λ w. w.writes) (named reads writes names ws) ≡ writes_of writes (map (λ (w : Worked I K). w.back) ws)
  named_writes [] [] h = refl
  named_writes (name ∷ names) (w ∷ ws) h = ap (λ ns. writes w.back.1 ∷ ns) (named_writes names ws h.1)
  named_writes [] (w ∷ ws) h = absurd h
  named_writes (name ∷ names) [] h = absurd h

  named_faults : (names : List (List ℕ)) (ws : List (Worked I K)) → AreNew left reads taken writes tells input names (map (λ w. w.given) ws) → sum_by (λ w. w.faults) (named reads writes names ws) ≡ sum_by (λ (w : Worked I K). w.faults) ws
  named_faults [] [] h = refl
  named_faults (name ∷ names) (w ∷ ws) h =
      sum_by-cons (λ (v : Named). v.faults) (record { name = name; status = w.status; faults = w.faults; reads = reads w.back.0; writes = writes w.back.1 }) (named reads writes names ws)
      ∙ ap (λ n. w.faults + n) (named_faults names ws h.1)
      ∙ sym (sum_by-cons (λ (v : Worked I K). v.faults) w ws)
  named_faults [] (w ∷ ws) h = absurd h
  named_faults (name ∷ names) [] h = absurd h

  module _ (base : Position) (issuing : Issuing) (whole : List Event) (before now : FaultCounts) where
    abbrev ReadsRose : List (I × K) → Type 0
    ReadsRose = RoseFor (λ (file : I × K). reads file.0) before.reads now.reads

    abbrev WritesRose : List (I × K) → Type 0
    WritesRose = RoseFor (λ (file : I × K). writes file.1) before.writes now.writes

    named_stops : (name : List ℕ) (w : Worked I K) → IsNew left reads taken writes tells (input name) w.given → HasStopped left reads taken writes base issuing w
        → (0 < reads w.back.0 → Rose before.reads now.reads) → (0 < writes w.back.1 → Rose before.writes now.writes)
        → NamedStops base issuing whole before now tells input output (record { name = name; status = w.status; faults = w.faults; reads = reads w.back.0; writes = writes w.back.1 })
    named_stops name w new stops reads_rose writes_rose =
        record {
          stops =
              subst (λ (n : ℕ). StopsFor w.status (input name) 0 (reads w.back.0) n (writes w.back.1)) new.no_writes
              (subst (λ (n : ℕ). StopsFor w.status (input name) n (reads w.back.0) (writes w.given.1) (writes w.back.1)) new.no_reads
              (subst (λ (o : Option (List ℕ)). StopsFor w.status o (reads w.given.0) (reads w.back.0) (writes w.given.1) (writes w.back.1)) new.bytes stops));
          reads_rose = reads_rose;
          writes_rose = writes_rose;
        }

    named_decks : (deck : ℕ) (names : List (List ℕ)) (ws : List (Worked I K)) → AreNew left reads taken writes tells input names (map (λ w. w.given) ws) → AreKept taken output names (map (λ w. w.back) ws)
        → ReadsRose (map (λ w. w.back) ws) → WritesRose (map (λ w. w.back) ws)
        → AreDecks left reads taken writes base issuing whole deck ws → DecksNamed base issuing whole before now tells input output deck (named reads writes names ws)
    named_decks deck [] [] h k r q decks = tt
    named_decks deck (name ∷ names) (w ∷ ws) h k r q decks = (
      (
        left w.back.0,
        subst (λ (n : ℕ). DeckRan base issuing whole deck w.faults (Rose 0 (reads w.back.0)) (Rose n (writes w.back.1)) w.status (input name) (left w.back.0) (told tells []) (output (output_name name))) h.0.no_writes
            (subst (λ (n : ℕ). DeckRan base issuing whole deck w.faults (Rose n (reads w.back.0)) (Rose (writes w.given.1) (writes w.back.1)) w.status (input name) (left w.back.0) (told tells []) (output (output_name name))) h.0.no_reads
            (subst (λ (o : Option (List ℕ)). DeckRan base issuing whole deck w.faults (Rose (reads w.given.0) (reads w.back.0)) (Rose (writes w.given.1) (writes w.back.1)) w.status (input name) (left w.back.0) (told tells []) o) (sym k.0)
            (subst (λ (o : Option (List ℕ)). DeckRan base issuing whole deck w.faults (Rose (reads w.given.0) (reads w.back.0)) (Rose (writes w.given.1) (writes w.back.1)) w.status (input name) (left w.back.0) o (taken w.back.1)) h.0.empty
            (subst (λ (o : Option (List ℕ)). DeckRan base issuing whole deck w.faults (Rose (reads w.given.0) (reads w.back.0)) (Rose (writes w.given.1) (writes w.back.1)) w.status o (left w.back.0) (taken w.given.1) (taken w.back.1)) h.0.bytes decks.0.0)))),
      ),
      named_stops name w h.0 decks.0.1 r.0 q.0,
      named_decks (suc deck) names ws h.1 k.1 r.1 q.1 decks.1,
    )
    named_decks deck [] (w ∷ ws) h k r q decks = absurd h
    named_decks deck (name ∷ names) [] h k r q decks = absurd h

    named_files : (names : List (List ℕ)) (ws : List (Worked I K)) → AreNew left reads taken writes tells input names (map (λ w. w.given) ws) → AreKept taken output names (map (λ w. w.back) ws)
        → ReadsRose (map (λ w. w.back) ws) → WritesRose (map (λ w. w.back) ws)
        → AreFiles left reads taken writes base issuing whole ws → FilesNamed base issuing whole before now tells input output (named reads writes names ws)
    named_files [] [] h k r q files = tt
    named_files (name ∷ names) (w ∷ ws) h k r q files = (
      (
        left w.back.0,
        subst (λ (n : ℕ). FileRan base whole (Rose 0 (reads w.back.0)) (Rose n (writes w.back.1)) w.status (input name) (left w.back.0) (told tells []) (output (output_name name))) h.0.no_writes
            (subst (λ (n : ℕ). FileRan base whole (Rose n (reads w.back.0)) (Rose (writes w.given.1) (writes w.back.1)) w.status (input name) (left w.back.0) (told tells []) (output (output_name name))) h.0.no_reads
            (subst (λ (o : Option (List ℕ)). FileRan base whole (Rose (reads w.given.0) (reads w.back.0)) (Rose (writes w.given.1) (writes w.back.1)) w.status (input name) (left w.back.0) (told tells []) o) (sym k.0)
            (subst (λ (o : Option (List ℕ)). FileRan base whole (Rose (reads w.given.0) (reads w.back.0)) (Rose (writes w.given.1) (writes w.back.1)) w.status (input name) (left w.back.0) o (taken w.back.1)) h.0.empty
            (subst (λ (o : Option (List ℕ)). FileRan base whole (Rose (reads w.given.0) (reads w.back.0)) (Rose (writes w.given.1) (writes w.back.1)) w.status o (left w.back.0) (taken w.given.1) (taken w.back.1)) h.0.bytes files.0.0)))),
      ),
      named_stops name w h.0 files.0.1 r.0 q.0,
      named_files names ws h.1 k.1 r.1 q.1 files.1,
    )
    named_files [] (w ∷ ws) h k r q files = absurd h
    named_files (name ∷ names) [] h k r q files = absurd h

  -- ---- a run, under names
  pub named_run : (opened : OpenedDisks) (first second : Option History) (before now : FaultCounts) (base : Position) (issuing : Issuing) (entries : List Accepted) (doubt : Option Accepted) (status : Status) (decks : ℕ) (names : List (List ℕ)) (files outs : List (I × K)) (old : List ℕ → Option (List ℕ))
      → decks ≤ length files → AreNew left reads taken writes tells input names files → AreKept taken output names outs
      → RunsTogether left reads taken writes base issuing entries doubt status (take decks files) (drop decks files) outs
      → RoseFor (λ file. reads file.0) before.reads now.reads outs → RoseFor (λ file. writes file.1) before.writes now.writes outs
      → (is_some doubt ≡ true → RoseEither before.first now.first before.second now.second)
      → AreLegal base entries → StandAt doubt first second (reached base (all_of entries doubt)) → StaysAlong base (all_of entries doubt) opened.idle opened.live (pick opened.idle.side first second)
      → pick opened.idle.side second first ≡ opened.idle.told → OthersStay names old output
      → NamedRan opened first second before now base tells status (record { issuing = issuing; decks = decks; names = names }) (reads_of reads outs) (writes_of writes outs) input old output
  named_run opened first second before now base issuing entries doubt status decks names files outs old enough new kept together reads_rose writes_rose rose legal stand moments idle others =
      let dw = together.deck_workers in
      let fw = together.file_workers in
      let givens : files ≡ map (λ w. w.given) dw ++ map (λ w. w.given) fw =
      sym (take-append-drop decks files) ∙ ap (λ xs. xs ++ drop decks files) (sym together.decks_are) ∙ ap (λ xs. map (λ (w : Worked I K). w.given) dw ++ xs) (sym together.requests_are) in
      let backs : outs ≡ map (λ w. w.back) dw ++ map (λ w. w.back) fw = sym together.outs_are ∙ map-append (λ (w : Worked I K). w.back) dw fw in
      let count : length dw ≡ decks = sym (length-map dw (λ (w : Worked I K). w.given)) ∙ ap length together.decks_are ∙ length-take-le decks files enough in
      let given_count : length (map (λ (w : Worked I K). w.given) dw) ≡ decks = length-map dw (λ (w : Worked I K). w.given) ∙ count in
      let back_count : length (map (λ (w : Worked I K). w.back) dw) ≡ decks = length-map dw (λ (w : Worked I K). w.back) ∙ count in
      let news : AreNew left reads taken writes tells input (take decks names) (map (λ w. w.given) dw) × AreNew left reads taken writes tells input (drop decks names) (map (λ w. w.given) fw) =
      subst (λ (n : ℕ). AreNew left reads taken writes tells input (take n names) (map (λ w. w.given) dw) × AreNew left reads taken writes tells input (drop n names) (map (λ w. w.given) fw)) given_count
      (AreNew-split left reads taken writes tells input output names (map (λ w. w.given) dw) (map (λ w. w.given) fw) (subst (AreNew left reads taken writes tells input names) givens new)) in
      let keeps : AreKept taken output (take decks names) (map (λ w. w.back) dw) × AreKept taken output (drop decks names) (map (λ w. w.back) fw) =
      subst (λ (n : ℕ). AreKept taken output (take n names) (map (λ (w : Worked I K). w.back) dw) × AreKept taken output (drop n names) (map (λ (w : Worked I K). w.back) fw)) back_count
      (AreKept-split left reads taken writes tells input output names (map (λ w. w.back) dw) (map (λ w. w.back) fw) (subst (AreKept taken output names) backs kept)) in
      let failed_reads =
      RoseFor-split (λ (file : I × K). reads file.0) before.reads now.reads (map (λ w. w.back) dw) (map (λ w. w.back) fw)
      (subst (RoseFor (λ (file : I × K). reads file.0) before.reads now.reads) backs reads_rose) in
      let failed_writes =
      RoseFor-split (λ (file : I × K). writes file.1) before.writes now.writes (map (λ w. w.back) dw) (map (λ w. w.back) fw)
      (subst (RoseFor (λ (file : I × K). writes file.1) before.writes now.writes) backs writes_rose) in
      record {
        entries = entries;
        doubt = doubt;
        decks = named reads writes (take decks names) dw;
        files = named reads writes (drop decks names) fw;
        are_decks =
            named_decks base issuing (all_of entries doubt) before now 0 (take decks names) dw news.0 keeps.0 failed_reads.0 failed_writes.0 together.are_decks;
        are_files =
            named_files base issuing (all_of entries doubt) before now (drop decks names) fw news.1 keeps.1 failed_reads.1 failed_writes.1 together.are_files;
        of_decks = subst (λ (n : ℕ). All (λ (entry : Accepted). entry.deck < n) entries) (length-take-le decks files enough) together.of_decks;
        deck_names_are = named_names (take decks names) dw news.0;
        file_names_are = named_names (drop decks names) fw news.1;
        reads_are =
            map-append (λ (w : Named). w.reads) (named reads writes (take decks names) dw) (named reads writes (drop decks names) fw)
            ∙ ap (λ xs. xs ++ map (λ (w : Named). w.reads) (named reads writes (drop decks names) fw)) (named_reads (take decks names) dw news.0)
            ∙ ap (λ xs. reads_of reads (map (λ (w : Worked I K). w.back) dw) ++ xs) (named_reads (drop decks names) fw news.1)
            ∙ sym (map-append (λ (file : I × K). reads file.0) (map (λ (w : Worked I K). w.back) dw) (map (λ (w : Worked I K). w.back) fw))
            ∙ ap (reads_of reads) (sym backs);
        writes_are =
            map-append (λ (w : Named). w.writes) (named reads writes (take decks names) dw) (named reads writes (drop decks names) fw)
            ∙ ap (λ xs. xs ++ map (λ (w : Named). w.writes) (named reads writes (drop decks names) fw)) (named_writes (take decks names) dw news.0)
            ∙ ap (λ xs. writes_of writes (map (λ (w : Worked I K). w.back) dw) ++ xs) (named_writes (drop decks names) fw news.1)
            ∙ sym (map-append (λ (file : I × K). writes file.1) (map (λ (w : Worked I K). w.back) dw) (map (λ (w : Worked I K). w.back) fw))
            ∙ ap (writes_of writes) (sym backs);
        status_is =
            together.status_is ∙ ap greatest
            (map-append (λ (w : Worked I K). w.status) dw fw
            ∙ ap (λ xs. xs ++ map (λ (w : Worked I K). w.status) fw) (sym (named_statuses (take decks names) dw news.0))
            ∙ ap (λ xs. map (λ (w : Named). w.status) (named reads writes (take decks names) dw) ++ xs) (sym (named_statuses (drop decks names) fw news.1))
            ∙ sym (map-append (λ (w : Named). w.status) (named reads writes (take decks names) dw) (named reads writes (drop decks names) fw)));
        one_fault = named_faults (take decks names) dw news.0 ∙ together.one_fault;
        halted_status = together.halted_status;
        rose = rose;
        legal = legal;
        stand = stand;
        moments = moments;
        idle = idle;
        others = others;
      }

-- ---- what faults come of
module _ {I K : Type 0} (left : I → Option (List ℕ)) (reads : I → ℕ) (taken : K → Option (List ℕ)) (writes : K → ℕ) (base : Position) (issuing : Issuing) where
  abbrev AreStopped : List (Worked I K) → Type 0
  AreStopped [] = Unit {0}
  AreStopped (w ∷ ws) = HasStopped left reads taken writes base issuing w × AreStopped ws

  stopped_decks : (whole : List Event) (deck : ℕ) (ws : List (Worked I K)) → AreDecks left reads taken writes base issuing whole deck ws → AreStopped ws
  stopped_decks whole deck [] h = tt
  stopped_decks whole deck (w ∷ ws) h = (h.0.1, stopped_decks whole (suc deck) ws h.1)

  stopped_files : (whole : List Event) (ws : List (Worked I K)) → AreFiles left reads taken writes base issuing whole ws → AreStopped ws
  stopped_files whole [] h = tt
  stopped_files whole (w ∷ ws) h = (h.0.1, stopped_files whole ws h.1)

  stopped_append : (xs ys : List (Worked I K)) → AreStopped xs → AreStopped ys → AreStopped (xs ++ ys)
  stopped_append [] ys h k = k
  stopped_append (x ∷ xs) ys h k = (h.0, stopped_append xs ys h.1 k)

  -- with a status that none of them has none of them ends
  no_status : (s : Status) → Done ≢ s → ((w : Worked I K) → HasStopped left reads taken writes base issuing w → w.status ≢ s) → (ws : List (Worked I K)) → AreStopped ws → greatest (map (λ w. w.status) ws) ≢ s
  no_status s done none [] h e = done e
  no_status s done none (w ∷ ws) h e =
      ⊎_elim (none w h.0) (no_status s done none ws h.1) (greater_is w.status (greatest (map (λ (v : Worked I K). v.status) ws)) s e)

  module _ (tells : Bool) (input : List ℕ → Option (List ℕ)) (before now : ℕ) where
    read_rose : (names : List (List ℕ)) (ws : List (Worked I K)) → AreStopped ws → AreNew left reads taken writes tells input names (map (λ w. w.given) ws) → greatest (map (λ w. w.status) ws) ≡ ReadFault
        → RoseFor (λ (file : I × K). reads file.0) before now (map (λ w. w.back) ws) → Rose before now
    read_rose [] [] h new e rose = absurd (none e)
      where
        none : Done ≡ ReadFault → ⊥
        none f = cc
    read_rose (name ∷ names) (w ∷ ws) h new e rose =
        ⊎_elim
        (λ here. rose.0 (rose_from_none (reads w.back.0) (subst (λ (n : ℕ). Rose n (reads w.back.0)) new.0.no_reads (h.0.read_fault here))))
        (λ other. read_rose names ws h.1 new.1 other rose.1)
        (greater_is w.status (greatest (map (λ (v : Worked I K). v.status) ws)) ReadFault e)
    read_rose [] (w ∷ ws) h new e rose = absurd new
    read_rose (name ∷ names) [] h new e rose = absurd new

    write_rose : (names : List (List ℕ)) (ws : List (Worked I K)) → AreStopped ws → AreNew left reads taken writes tells input names (map (λ w. w.given) ws) → greatest (map (λ w. w.status) ws) ≡ WriteFault
        → RoseFor (λ (file : I × K). writes file.1) before now (map (λ w. w.back) ws) → Rose before now
    write_rose [] [] h new e rose = absurd (none e)
      where
        none : Done ≡ WriteFault → ⊥
        none f = cc
    write_rose (name ∷ names) (w ∷ ws) h new e rose =
        ⊎_elim
        (λ here. rose.0 (rose_from_none (writes w.back.1) (subst (λ (n : ℕ). Rose n (writes w.back.1)) new.0.no_writes (h.0.write_fault here))))
        (λ other. write_rose names ws h.1 new.1 other rose.1)
        (greater_is w.status (greatest (map (λ (v : Worked I K). v.status) ws)) WriteFault e)
    write_rose [] (w ∷ ws) h new e rose = absurd new
    write_rose (name ∷ names) [] h new e rose = absurd new

  -- a run as a whole
  module _ (entries : List Accepted) (doubt : Option Accepted) (status : Status) (decks : ℕ) (files outs : List (I × K)) (together : RunsTogether left reads taken writes base issuing entries doubt status (take decks files) (drop decks files) outs) where
    all_stopped : AreStopped (together.deck_workers ++ together.file_workers)
    all_stopped =
        stopped_append together.deck_workers together.file_workers (stopped_decks (all_of entries doubt) 0 together.deck_workers together.are_decks) (stopped_files (all_of entries doubt) together.file_workers together.are_files)

    all_given : map (λ w. w.given) (together.deck_workers ++ together.file_workers) ≡ files
    all_given =
        map-append (λ (w : Worked I K). w.given) together.deck_workers together.file_workers
        ∙ ap (λ xs. xs ++ map (λ (w : Worked I K). w.given) together.file_workers) together.decks_are
        ∙ ap (λ xs. take decks files ++ xs) together.requests_are
        ∙ take-append-drop decks files

    outs_length : length outs ≡ length files
    outs_length =
        sym (ap length together.outs_are) ∙ length-map (together.deck_workers ++ together.file_workers) (λ (w : Worked I K). w.back)
        ∙ sym (length-map (together.deck_workers ++ together.file_workers) (λ (w : Worked I K). w.given)) ∙ ap length all_given

    -- all that were given are given back
    pub run_count : (tells : Bool) (input : List ℕ → Option (List ℕ)) (names : List (List ℕ)) (n : ℕ) → n ≡ length outs → AreNew left reads taken writes tells input names files → n ≡ length names
    run_count tells input names n is new = is ∙ outs_length ∙ AreNew-length left reads taken writes tells input names files new

    pub run_names : (tells : Bool) (input : List ℕ → Option (List ℕ)) (names : List (List ℕ)) (n : ℕ) → n ≡ length outs → AreNew left reads taken writes tells input names files → take n names ≡ names
    run_names tells input names n is new = let count : n ≡ length names = run_count tells input names n is new in take_all n names (omega arith)

    pub run_no_usage : status ≢ Usage
    run_no_usage e =
        no_status Usage (λ (f : Done ≡ Usage). cc) (λ w h. h.usage) (together.deck_workers ++ together.file_workers) all_stopped (sym together.status_is ∙ e)

    -- and what could not be opened was not run
    pub run_sound : IsUnsound status → ⊥
    run_sound (inl e) =
        no_status NotFormatted (λ (f : Done ≡ NotFormatted). cc) (λ w h. h.formatted) (together.deck_workers ++ together.file_workers) all_stopped (sym together.status_is ∙ e)
    run_sound (inr e) =
        no_status (Damaged e.0) (λ (f : Done ≡ Damaged e.0). cc) (λ w h. h.undamaged e.0) (together.deck_workers ++ together.file_workers) all_stopped (sym together.status_is ∙ e.1)

    pub run_reads : (tells : Bool) (input : List ℕ → Option (List ℕ)) (names : List (List ℕ)) (before now : ℕ) → AreNew left reads taken writes tells input names files
        → RoseFor (λ (file : I × K). reads file.0) before now outs → status ≡ ReadFault → Rose before now
    run_reads tells input names before now new rose e =
        read_rose tells input before now names (together.deck_workers ++ together.file_workers) all_stopped
        (subst (AreNew left reads taken writes tells input names) (sym all_given) new) (sym together.status_is ∙ e)
        (subst (RoseFor (λ (file : I × K). reads file.0) before now) (sym together.outs_are) rose)

    pub run_writes : (tells : Bool) (input : List ℕ → Option (List ℕ)) (names : List (List ℕ)) (before now : ℕ) → AreNew left reads taken writes tells input names files
        → RoseFor (λ (file : I × K). writes file.1) before now outs → status ≡ WriteFault → Rose before now
    run_writes tells input names before now new rose e =
        write_rose tells input before now names (together.deck_workers ++ together.file_workers) all_stopped
        (subst (AreNew left reads taken writes tells input names) (sym all_given) new) (sym together.status_is ∙ e)
        (subst (RoseFor (λ (file : I × K). writes file.1) before now) (sym together.outs_are) rose)

-- ---- what is open
pub opens_none : (names : List (List ℕ)) (old between new : List ℕ → Bool) → OthersStay names old between → ((other : List ℕ) → new other ≡ true → (between other ≡ true) × (is_among other (map output_name names) ≡ false)) → OpensNone old new
opens_none names old between new others closed other h = let before = closed other h in sym (others other before.1) ∙ before.0
