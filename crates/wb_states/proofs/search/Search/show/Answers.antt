-- Proof: show. The run that is made again is that of the set.
use Rattle.std.proofs.Common.{◌∙◌, ap}
use Rattle.wb_heap_model.specs.declared.heap.Rule.TheVariants.{Set}
use Rattle.wb_states.specs.States.{ground_of}
use Rattle.wb_states.proofs.EndLemmas.{run-again}
use Rattle.wb_states.proofs.search.Search.show.Goals as goal

pub returns-clause-sound : goal.returns-clause-sound
returns-clause-sound c =
    let sound = c.requires.sound in
    let run_is =
    c.in_ok-result.ensures
    ∙ run-again (ground_of c.args.self.now) c.args.numbers c.args.fork.now (Set c.in_ok-failing.failing) c.requires.run (ap Set c.in_ok-failing.ensures) in
    record {
      whole = sound.whole;
      part = sound.part;
      last = sound.last;
      last_made = sound.last_made;
      fewer_granted = sound.fewer_granted;
      fewer_failed = sound.fewer_failed;
      states = sound.states;
      met = sound.met;
      runs = sound.runs;
      first = sound.first;
      granted = sound.granted;
      failed = sound.failed;
      shown = record { tried = c.requires.tried; shows = c.requires.shows; run_is = run_is };
    }
