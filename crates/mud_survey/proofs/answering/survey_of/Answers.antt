use Rattle.std.proofs.Common.{ap, subst, ◌∙◌}
use Rattle.mud_survey.specs.Survey.{IsSurvey}
use Rattle.mud_survey.specs.Answer.{survey_text}
use Rattle.mud_survey.proofs.answering.survey_of.Goals as goal

pub returns-clause-ok : goal.returns-clause-ok
returns-clause-ok c =
    let found = c.in_ok-found.found in
    let survey = c.in_ok-survey.survey in
    record {
      version = found.version;
      world = found.world;
      keeps = c.in_ok-found.ensures.ok;
      players = c.in-Ok.players.items;
      party = c.in-Ok.ensures.ok;
      survey = survey;
      is = subst (λ l. IsSurvey found.world l survey) c.deref.ensures.value c.in_ok-survey.ensures;
      text_is = c.in_ok-text.ensures
          ∙ ap (λ l. survey_text c.args.form found.version found.world l survey) c.deref-2.ensures.value;
    }
