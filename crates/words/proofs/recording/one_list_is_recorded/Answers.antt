use Rattle.words.proofs.Keying.{one_recording}
use Rattle.words.proofs.recording.one_list_is_recorded.Goals as goal

pub returns : goal.returns
returns c = one_recording
