-- Each group of tests decides its relations.
use Rattle.automata.proofs.tests_decide.Goals as goal
use Rattle.automata.proofs.Decide.{form_decided, places_decided, meetings_decided, links_decided}

pub returns : goal.returns
returns c = record { form = form_decided; places = places_decided; meetings = meetings_decided; links = links_decided }
