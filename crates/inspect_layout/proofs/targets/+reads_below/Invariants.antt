use Rattle.inspect_layout.proofs.targets.+reads_below.Given as goal

abbrev pub decreases-reads_below : goal.decreases-reads_below
decreases-reads_below l = l.number
