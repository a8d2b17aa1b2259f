use mathlib.Core.Path.{◌∙◌}
use Rattle.screen.proofs.put_triple.Goals as goal

pub returns-in-Refused : goal.returns-in-Refused
returns-in-Refused c = c.put_words-in-Refused.ensures ∙ rw (c.refused_state-state.ensures, c.in-Refused.is)
