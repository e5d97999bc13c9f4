use Rattle.std.proofs.Common.{List, ◌∷◌, [], ap, subst, ◌∙◌, slice_get}
use Rattle.workers.specs.Gathers.{Gathers}
use Rattle.workers.specs.Seen.{JobSeen}
use Rattle.workers.proofs.Gathering.{gathers_on, none_came, one_came}
use Rattle.workers.proofs.Lists.{at_old}
use Rattle.workers.proofs.gathers.meet_all.Goals as goal

pub loop-job-init : goal.loop-job-init
loop-job-init g c = record {
  home = c.requires.home;
  posted = c.requires.posted;
  gathers = λ board g0. g0;
  back = λ board g0. none_came board c.args.jobs.items c.args.firsts.now.items;
}

pub loop-job-preserved : goal.loop-job-preserved
loop-job-preserved g c =
    let popped = c.in-Some.ensures.items in
    let old = c.loop-job.invariant in
    record {
      home = c.meet_job.ensures.home;
      posted = λ i j at. old.posted i j (ap (λ (js : List JobSeen). slice_get js i) popped ∙ at_old c.pop.new.self.items (c.in-Some.job ∷ []) i j at);
      gathers = λ board g0.
          gathers_on board c.args.lines.now c.pop.new.self.items c.in-Some.job c.loop-job.firsts.items c.meet_job.new.firsts.items c.meet_job.ensures old.home
          (subst (λ (js : List JobSeen). Gathers board c.args.lines.now js c.loop-job.firsts.items) popped (old.gathers board g0));
      back = λ board g0.
          one_came board c.args.lines.now c.args.jobs.items c.loop-job.jobs.items c.pop.new.self.items c.in-Some.job
          c.args.firsts.now.items c.loop-job.firsts.items c.meet_job.new.firsts.items popped c.meet_job.ensures old.home
          (subst (λ (js : List JobSeen). Gathers board c.args.lines.now js c.loop-job.firsts.items) popped (old.gathers board g0))
          (old.back board g0);
    }
