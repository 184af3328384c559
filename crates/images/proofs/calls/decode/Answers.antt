use Rattle.yuv_error.proofs.Asked.{gives}
use Rattle.images.proofs.calls.decode.Goals as goal

pub returns-clause-settings : goal.returns-clause-settings
returns-clause-settings g c = rw (← c.in_ok-sampling.ensures.sampling) (gives _ _ c.settings_in.ensures.answer)
