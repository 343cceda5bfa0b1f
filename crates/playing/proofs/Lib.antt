mod Holding
mod Playing
mod TextRuns
