-- The forecast's outcome in words.
use Rattle.answer_rules.proofs.Answer.{short, told}
use Rattle.answer_rules.specs.Answer.{forecast_words}
use Rattle.forecast_rules.specs.Forecast.{forecast_outcome}
use Rattle.adder_c.proofs.yoyomyrtle_forecast.Goals as goal

pub returns-then-answer-lt8 : goal.returns-then-answer-lt8
returns-then-answer-lt8 c =
    let made = short forecast_words (forecast_outcome c.args.table.now c.args.digits) c.args.answer.now c.if-answer-lt8.true in
    record { outcome = made.0; answer = made.1 }

pub returns : goal.returns
returns c =
    let a = c.args in
    let made = told forecast_words (forecast_outcome a.table.now a.digits) a.answer.now _ _ _ c.if-answer-lt8.false c.forecast.ensures c.forecasted.ensures.status c.forecasted.ensures.answer in
    record { outcome = made.0; answer = made.1 }
