use Rattle.false_answers.proofs.OverP.{one_node_more}
use Rattle.false_answers.proofs.over_p_a_node_more_is_refuted.Goals as goal

pub returns : goal.returns
returns c = one_node_more
