use Rattle.std.proofs.Common.{◌≡◌, Some, rules}
use Rattle.text.specs.Numbers.{numeral}
use Rattle.signs.proofs.questions.number_as.Goals as goal

pub returns : goal.returns
returns g c =
    let is : numeral c.args.field.now ≡ Some c.in_ok-number.field-0 = search rules in
    rw is (c.try_from.result, c.try_from.ensures, c.ok.ensures.value)
