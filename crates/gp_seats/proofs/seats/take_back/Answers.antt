use Rattle.std.proofs.Common.{◌≡◌, ◌+◌, length, ap, ◌∙◌, length-append, vec_capacity, arith}
use Rattle.std.specs.Option.{option_to_list}
use Rattle.gp_seats.proofs.Sitting.{back_list, back_room}
use Rattle.gp_seats.proofs.seats.take_back.Goals as goal

pub push_log-requires : goal.push_log-requires
push_log-requires g c =
    let room = back_room c.loop-job.left.items c.pop.new.self.items c.in-Some.job c.loop-job.logs.items c.log_in-log.result (vec_capacity c.loop-job.logs) c.in-Some.ensures.items c.log_in-log.ensures c.loop-job.invariant.1 in omega arith

pub loop-job-preserved : goal.loop-job-preserved
loop-job-preserved g c =
    let room = back_room c.loop-job.left.items c.pop.new.self.items c.in-Some.job c.loop-job.logs.items c.log_in-log.result (vec_capacity c.loop-job.logs) c.in-Some.ensures.items c.log_in-log.ensures c.loop-job.invariant.1 in
    let grown : length c.push_log.new.logs.items ≡ length c.loop-job.logs.items + length (option_to_list c.log_in-log.result) = ap length c.push_log.ensures.items ∙ length-append c.loop-job.logs.items (option_to_list c.log_in-log.result) in
    let same = c.push_log.ensures.room in (
      back_list c.loop-job.left.items c.pop.new.self.items c.in-Some.job c.loop-job.logs.items c.push_log.new.logs.items c.log_in-log.result c.in-Some.ensures.items c.log_in-log.ensures c.push_log.ensures.items ∙ c.loop-job.invariant.0,
      omega arith,
    )
