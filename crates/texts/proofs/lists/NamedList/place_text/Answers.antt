use Rattle.std.proofs.Common.{◌<◌, ◌≤◌, length, rules, arith}
use Rattle.std.proofs.lemmas.Bool.Decides.{nat_tests}
use Rattle.texts.proofs.Places.{place_in, place_past}
use Rattle.texts.proofs.lists.NamedList.place_text.Goals as goal

pub returns-in-Some : goal.returns-in-Some
returns-in-Some g c =
    let found = c.in-Some.ensures.lookup in
    let inside : c.args.i < length c.args.self.entries.now = grind (arith, nat_tests) in
    let e = place_in c.args.self.name.now c.args.self.entries.now c.args.i c.in-Some.field-0.now inside in
    search rules

pub returns-in-None : goal.returns-in-None
returns-in-None g c =
    let found = c.in-None.ensures.lookup in
    let past : length c.args.self.entries.now ≤ c.args.i = grind (arith, nat_tests) in
    rw (place_past c.args.self.name.now c.args.self.entries.now c.args.i past) (search rules)
