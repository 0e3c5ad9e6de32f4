use Rattle.std.proofs.Common.{rules, ◌≡◌, ◌<◌, ◌≤◌, ◌/◌, ◌%◌, length, get_or}
use Rattle.packet_codec.proofs.RunsLeft.{answers_yes}
use Rattle.packet_codec.proofs.LookLemmas.{front_of_none, front_of_one, front_of_two, front_of_three, size_tells, too_wide}
use Rattle.packet_codec.proofs.front_reader.is_front_of_header.Goals as goal

pub returns-in_default : goal.returns-in_default
returns-in_default c =
    let none : length c.args.bytes.now ≤ 0 = search rules in
    answers_yes (front_of_none _ none)

pub returns-in_default-get : goal.returns-in_default-get
returns-in_default-get c =
    let some : 0 < length c.args.bytes.now = search rules in
    let few : length c.args.bytes.now ≤ 1 = search rules in
    let first : get_or c.args.bytes.now 0 0 ≡ 179 = search rules in
    answers_yes (front_of_one _ some few first)

pub returns-in_default-get-2 : goal.returns-in_default-get-2
returns-in_default-get-2 c =
    let some : 1 < length c.args.bytes.now = search rules in
    let few : length c.args.bytes.now ≤ 2 = search rules in
    let first : get_or c.args.bytes.now 0 0 ≡ 179 = search rules in
    let second : get_or c.args.bytes.now 1 0 / 16 ≡ 2 = search rules in
    answers_yes (front_of_two _ some few first second)

pub returns-in_default-get-3 : goal.returns-in_default-get-3
returns-in_default-get-3 c =
    let some : 2 < length c.args.bytes.now = search rules in
    let few : length c.args.bytes.now ≤ 3 = search rules in
    let first : get_or c.args.bytes.now 0 0 ≡ 179 = search rules in
    let second : get_or c.args.bytes.now 1 0 / 16 ≡ 2 = search rules in
    let third : get_or c.args.bytes.now 2 0 / 8 % 2 ≡ 0 = search rules in
    answers_yes (front_of_three _ some few first second third)

pub returns-then-extra-le2 : goal.returns-then-extra-le2
returns-then-extra-le2 c =
    let some : 3 < length c.args.bytes.now = search rules in
    let first : get_or c.args.bytes.now 0 0 ≡ 179 = search rules in
    let second : get_or c.args.bytes.now 1 0 / 16 ≡ 2 = search rules in
    let third : get_or c.args.bytes.now 2 0 / 8 % 2 ≡ 0 = search rules in
    let extra : c.from-extra.result ≡ get_or c.args.bytes.now 3 0 / 64 = search rules in
    size_tells _ c.from-extra.result _ c.type_inv.bytes some first second third extra c.if-extra-le2.true (search rules)

pub returns-else-extra-le2 : goal.returns-else-extra-le2
returns-else-extra-le2 c =
    let some : 3 < length c.args.bytes.now = search rules in
    let extra : c.from-extra.result ≡ get_or c.args.bytes.now 3 0 / 64 = search rules in
    too_wide _ c.from-extra.result _ c.type_inv.bytes some extra (search rules) (search rules)
