mod PathExamples
mod PathReading
mod PathLaws
