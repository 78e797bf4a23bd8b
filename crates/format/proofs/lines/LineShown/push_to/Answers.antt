use Rattle.text.proofs.Chain.{pushed_then}
use Rattle.format.specs.Shown.{line_text}
use Rattle.format.proofs.lines.LineShown.push_to.Goals as goal

pub returns : goal.returns
unfolding line_text
returns g c =
    pushed_then _ _ _ _ _ c.push_number.ensures (pushed_then _ _ _ _ _ c.push_str.ensures (pushed_then _ _ _ _ _ c.push_to.ensures c.push_str-2.ensures))
