-- Proof: drop_second. The forks that are left were there before.
use Rattle.wb_lengths.proofs.forks.Forks.drop_second.Goals as goal

pub returns-in_err-drop_first-in-Some : goal.returns-in_err-drop_first-in-Some
returns-in_err-drop_first-in-Some c script budget shape are =
    let taken = c.in-Some.ensures script budget shape are in c.drop_first.ensures script budget shape taken.0

pub returns-in_ok-drop_first-in-Some : goal.returns-in_ok-drop_first-in-Some
returns-in_ok-drop_first-in-Some c script budget shape are =
    let taken = c.in-Some.ensures script budget shape are in
    c.put_first.ensures script budget shape (c.drop_first.ensures script budget shape taken.0) taken.1
