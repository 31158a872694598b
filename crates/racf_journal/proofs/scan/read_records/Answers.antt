-- A record more, the damage in its place, or the end.
use Rattle.std.proofs.Common.{◌≡◌, ◌∙◌, [], ◌∷◌, ◌++◌, true, false, sym, inl, rules}
use Rattle.racf_journal.specs.Reading.{is_open}
use Rattle.racf_journal.proofs.Scans.{scanned_damage, scanned_split, scanned_lawful, scanned_to, scanned_end}
use Rattle.racf_journal.proofs.scan.read_records.Goals as goal

pub returns-in_default-clause-fault : goal.returns-in_default-clause-fault
returns-in_default-clause-fault c =
    let i = c.loop-rest.invariant in
    let is : is_open c.loop-rest.rest.now ≡ true = sym c.gate_is_open.ensures ∙ c.loop-rest-test.true in
    inl (scanned_damage c.args.bytes.now c.loop-rest.records.items c.loop-rest.rest.now i.split i.lawful is c.args.start c.loop-rest.gate i.to c.in_default.ensures.short)

pub loop-rest-preserved : goal.loop-rest-preserved
loop-rest-preserved c =
    let i = c.loop-rest.invariant in
    let is : is_open c.loop-rest.rest.now ≡ true = sym c.gate_is_open.ensures ∙ c.loop-rest-test.true in
    let pushed : c.push.new.self.items ≡ c.loop-rest.records.items ++ c.in-Some.next.now ∷ [] = search rules in
    record {
      split = scanned_split c.args.bytes.now c.loop-rest.records.items c.loop-rest.rest.now i.split i.lawful is c.in-Some.next.now c.push.new.self.items c.in-Some.ensures.whole c.in-Some.ensures.first pushed;
      lawful = scanned_lawful c.args.bytes.now c.loop-rest.records.items c.loop-rest.rest.now i.split i.lawful is c.in-Some.next.now c.push.new.self.items c.in-Some.ensures.whole c.in-Some.ensures.first pushed;
      to = scanned_to c.args.bytes.now c.loop-rest.records.items c.loop-rest.rest.now i.split i.lawful is c.in-Some.next.now c.push.new.self.items c.in-Some.ensures.whole c.in-Some.ensures.first pushed c.args.start c.loop-rest.gate i.to;
    }

pub returns-clause-read : goal.returns-clause-read
returns-clause-read c =
    let i = c.loop-rest.invariant in
    let is : is_open c.loop-rest.rest.now ≡ false = sym c.gate_is_open.ensures ∙ c.loop-rest-test.false in
    scanned_end c.args.bytes.now c.loop-rest.records.items c.loop-rest.rest.now i.split i.lawful is c.args.start c.loop-rest.gate i.to
